use Rattle.std.proofs.Common.{ℕ, ◌<◌, List, length, refl, sym, ap, ◌∙◌, subst, arith}
use Rattle.std.specs.List.{slice_get}
use Rattle.std.proofs.lemmas.List.{length-map}
use Rattle.bump_cache.specs.Opening.{BeginsAll, CacheBlankView, IsNewPart}
use Rattle.bump_cache.specs.Readers.{CacheReaderView}
use Rattle.cache_shelf.specs.Shelves.{ShelfView}
use Rattle.bump_cache.proofs.NewParts.{opened_readers, part_new, shelves_wide}
use Rattle.bump_cache.proofs.NewReaders.{rows_all}
use Rattle.cache_config.proofs.Openings.{books_new}
use Rattle.cache_config.proofs.RowLemmas.{rows_counted}
use Rattle.cache_config.proofs.Soundness.{sound}
use Rattle.bump_cache.proofs.opening.open.Goals as goal

pub returns-clause-count : goal.returns-clause-count
returns-clause-count g c = ap length c.in_ok-readers.ensures ∙ (length-map _ _ ∙ (c.in_ok-rows.ensures.rows.count
    ∙ ap (λ (b : CacheBlankView). b.config.readers) c.blank.view_is))

pub make_readers-requires-clause-parts : goal.make_readers-requires-clause-parts
make_readers-requires-clause-parts g c =
    let is = sound c.blank.inside.config c.blank.invariant.0.no_fault in
    rows_counted _ _ _ _ _ _ c.in_ok-rows.ensures.rows is.parts_least is.parts_most

pub make_pairs-requires-clause-words : goal.make_pairs-requires-clause-words
make_pairs-requires-clause-words g c =
    let wide = shelves_wide _ _ _ _ _ _ c.in_ok-shelves.ensures in
    λ k none low. ((wide k none low).0 ∙ c.words.ensures, (wide k none low).1 ∙ c.words-2.ensures)

pub returns-clause-readers : goal.returns-clause-readers
returns-clause-readers g c =
    let e = c.in_ok-heads.ensures in
    opened_readers _ _ c.blank.inside.store _ c.in_ok-heads.field-0.workers.items _ c.blank.view_is
    c.blank.invariant.0.store_of e.heads (λ number reader had. rows_all c.blank.inside.config _ _ _
    c.blank.inside.config.parts number reader refl c.in_ok-rows.ensures.rows
    (ap (λ (rs : List CacheReaderView). slice_get rs number) (sym c.in_ok-readers.ensures) ∙ had)) e.workers e.capacity

pub returns-clause-shelves : goal.returns-clause-shelves
returns-clause-shelves g c =
    let e = c.in_ok-heads.ensures in
    let begins = subst (λ (shelves : List ShelfView). BeginsAll shelves c.make_locks.new.me) c.in_ok-pairs.ensures
    c.in_ok-parts.ensures.begins in
    subst (λ (blank : CacheBlankView). (part : ℕ) → part < blank.config.parts → IsNewPart blank.config part
    g.K.Packed.width g.V.Packed.width c.in_ok-readers.readers.items c.make_locks.new.me) c.blank.view_is
    (λ part low. subst (λ (width : ℕ). IsNewPart c.blank.inside.config part g.K.Packed.width width
    c.in_ok-readers.readers.items c.make_locks.new.me) c.words-2.ensures
    (subst (λ (width : ℕ). IsNewPart c.blank.inside.config part width c.words-2.result
    c.in_ok-readers.readers.items c.make_locks.new.me) c.words.ensures
    (part_new c.blank.inside.config _ c.in_ok-heads.field-0.workers.items c.in_ok-heads.field-0.lanes.items
    c.in_ok-readers.readers.items e.rings (λ number reader had. rows_all c.blank.inside.config _ _ _
    c.blank.inside.config.parts number reader refl c.in_ok-rows.ensures.rows
    (ap (λ (rs : List CacheReaderView). slice_get rs number) (sym c.in_ok-readers.ensures) ∙ had))
    (ap length c.in_ok-readers.ensures ∙ (length-map _ _ ∙ c.in_ok-rows.ensures.rows.count))
    c.words.result c.words-2.result c.in_ok-shelves.shelves.items _ c.in_ok-shelves.ensures begins part low)))

pub make_shelves-requires-clause-books : goal.make_shelves-requires-clause-books
make_shelves-requires-clause-books g c =
    let e = c.in_ok-heads.ensures in
    books_new _ c.blank.inside.store _ _ _ c.blank.invariant.0.store_of e.books

pub make_locks-requires-clause-few : goal.make_locks-requires-clause-few
make_locks-requires-clause-few g c =
    let is = sound c.blank.inside.config c.blank.invariant.0.no_fault in
    omega (arith, ap length c.in_ok-pairs.ensures, c.in_ok-shelves.ensures.count_is, is.parts_most)

pub invariant_of-cache : goal.invariant_of-cache
invariant_of-cache g c =
    let is = sound c.blank.inside.config c.blank.invariant.0.no_fault in
    let count = c.in_ok-parts.ensures.count in
    let all = ap length c.in_ok-pairs.ensures ∙ c.in_ok-shelves.ensures.count_is in (
      (omega (arith, count, all, is.parts_least), omega (arith, count, all, is.parts_most)),
      c.blank.invariant.2,
    )
