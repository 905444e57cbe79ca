use Rattle.std.proofs.Common.{rules, ◌≡◌, ◌++◌, List, [], ◌∷◌, sym, ap, ◌∙◌}
use Rattle.std.proofs.lemmas.List.{append_assoc, map-append}
use Rattle.std.specs.Vec.Iter.{into_iter_items}
use Rattle.bump_cache.specs.Readers.{CacheReaderView}
use Rattle.entry_cache.specs.Readers.{EntryReaderView, row_readers}
use Rattle.entry_cache.proofs.opening.make_readers.Goals as goal

pub loop-reader-preserved : goal.loop-reader-preserved
loop-reader-preserved g c =
    let so_far = c.loop-reader.invariant in
    let made = c.loop-reader.readers.items in
    let rest = into_iter_items c.next.new.self in
    let next : into_iter_items c.loop-reader.reader-iterator ≡ c.in-Some.reader ∷ rest = c.in-Some.ensures.steps.0 in
    let rows : c.new.result.rows ≡ c.in-Some.reader = search rules in
    ap (λ (rs : List EntryReaderView). row_readers rs ++ rest) c.in_ok-push.ensures.items
    ∙ (ap (λ (rs : List CacheReaderView). rs ++ rest) (map-append _ made (c.new.result ∷ []))
    ∙ (append_assoc (row_readers made) (c.new.result.rows ∷ []) rest
    ∙ (ap (λ (r : CacheReaderView). row_readers made ++ (r ∷ rest)) rows
    ∙ (ap (λ (rs : List CacheReaderView). row_readers made ++ rs) (sym next) ∙ so_far))))
