use Rattle.std.proofs.Common.{rules, ◌≡◌, ◌++◌, List, [], ◌∷◌, length, map, sym, ap, ◌∙◌}
use Rattle.std.proofs.lemmas.List.{append_assoc}
use Rattle.std.specs.Vec.Iter.{into_iter_items}
use Rattle.cache_readers.specs.Readers.{ReaderView}
use Rattle.cache_config.specs.Choosing.{IsPartCount}
use Rattle.bump_cache.specs.Readers.{CacheReaderView, readers_by}
use Rattle.cache_config.proofs.Places.{all_rest}
use Rattle.bump_cache.proofs.making.make_readers.Goals as goal

pub loop-row-preserved : goal.loop-row-preserved
loop-row-preserved g c =
    let so_far = c.loop-row.invariant in
    let made = c.loop-row.readers.items in
    let make = readers_by c.args.seed in
    let rest = into_iter_items c.next.new.self in
    let next : into_iter_items c.loop-row.row-iterator ≡ c.in-Some.row ∷ rest = c.in-Some.ensures.steps.0 in
    let reader : c.new.result ≡ make c.in-Some.row = search rules in
    record {
      made = ap (λ (rs : List CacheReaderView). rs ++ map make rest) c.in_ok-push.ensures.items
          ∙ (append_assoc made (c.new.result ∷ []) (map make rest)
          ∙ (ap (λ (r : CacheReaderView). made ++ (r ∷ map make rest)) reader
          ∙ (ap (λ (rows : List (List ReaderView)). made ++ map make rows) (sym next) ∙ so_far.made)));
      parts = all_rest (λ (row : List ReaderView). IsPartCount (length row)) (into_iter_items c.loop-row.row-iterator)
          c.in-Some.row rest next so_far.parts;
    }
