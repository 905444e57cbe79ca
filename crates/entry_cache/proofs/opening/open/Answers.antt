use Rattle.std.proofs.Common.{◌<◌, ℕ, List, sym, subst}
use Rattle.bump_cache.specs.Opening.{CacheBlankView, IsNewPart}
use Rattle.bump_cache.specs.Readers.{CacheReaderView}
use Rattle.entry_cache.specs.Readers.{row_readers}
use Rattle.entry_cache.proofs.opening.open.Goals as goal

pub returns-clause-shelves : goal.returns-clause-shelves
returns-clause-shelves g c =
    let caller = c.in_ok-rows.field-0.caller in
    subst (λ (blank : CacheBlankView). (part : ℕ) → part < blank.config.parts
    → IsNewPart blank.config part 1 1 (row_readers c.in_ok-readers.readers.items) caller) c.blank.view_is
    (subst (λ (readers : List CacheReaderView). (part : ℕ) → part < c.blank.inside.rows.config.parts
    → IsNewPart c.blank.inside.rows.config part 1 1 readers caller) (sym c.in_ok-readers.ensures) c.in_ok-rows.ensures.shelves)
