use Rattle.std.proofs.Common.{◌≡◌, List, ◌∷◌, length, ap, ◌∙◌}
use Rattle.std.specs.Vec.Iter.{into_iter_items}
use Rattle.bump_handles.specs.Opening.{all_there}
use Rattle.cache_readers.specs.Readers.{ReaderView}
use Rattle.cache_config.specs.Choosing.{IsPartCount}
use Rattle.bump_cache.specs.Readers.{readers_by}
use Rattle.cache_config.proofs.Places.{all_rest}
use Rattle.cache_handles.specs.Opening.{reader_by, readers_of}
use Rattle.cache_handles.proofs.OpeningLemmas.{made_one}
use Rattle.cache_handles.proofs.opening.make_readers.Goals as goal

pub loop-row-preserved : goal.loop-row-preserved
loop-row-preserved g c =
    let so_far = c.loop-row.invariant in
    let rest = into_iter_items c.next.new.self in
    let next : into_iter_items c.loop-row.row-iterator ≡ c.in-Some.row ∷ rest = c.in-Some.ensures.steps.0 in
    let reader : c.in_ok-reader.reader
    ≡ reader_by c.args.config.now c.args.places (readers_by c.args.config.now.cache.seed c.in-Some.row) =
    c.in_ok-reader.ensures in
    record {
      made = made_one (λ b. b.value) c.loop-row.all.items c.push.new.self.items c.in_ok-new.field-0 _ _
          (all_there (readers_of c.args.config.now c.args.places rest)) _ c.in_ok-push.ensures.items
          (c.in_ok-new.ensures.ok ∙ reader)
          (ap (λ (rows : List (List ReaderView)). all_there (readers_of c.args.config.now c.args.places rows)) next)
          so_far.made;
      counted = all_rest (λ (row : List ReaderView). IsPartCount (length row))
          (into_iter_items c.loop-row.row-iterator) c.in-Some.row rest next so_far.counted;
    }
