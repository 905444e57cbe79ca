-- What the end of the item whose turn it is leaves of what a part keeps.
use Rattle.std.proofs.Common.{ℕ, List, Option, Some, None, IsSome, IfSome, IfNone, true, refl, sym, subst}
use Rattle.bump_class.specs.Lanes.{LaneView}
use Rattle.bump_steps.specs.Rule.{RowPredicate}
use Rattle.cache_lists.specs.Items.{EndsAt}
use Rattle.cache_lists.specs.Linked.{linked_at}
use Rattle.cache_part.specs.Evicting.{EvictsNext}
use Rattle.cache_part.specs.Looks.{LooksOnly}
use Rattle.cache_part.specs.Parts.{PartView, IsPart}
use Rattle.cache_part.specs.Putting.{TellsRow}
use Rattle.cache_shelf.specs.Entries.{AllKept, Evicted, key_of_evicted}
use Rattle.cache_shelf.specs.Shelves.{IsLawful}
use Rattle.cache_shelf.proofs.Keeping.{IsAlike}
use Rattle.cache_shelf.proofs.Putting.{refused_evicted, refused_lawful, refused_others}
use Rattle.cache_shelf.proofs.Removing.{gone, stay}

module _ (most now : ℕ) (before after : PartView) (from to : List LaneView) (alike : IsAlike before after) where
  -- where none is evicted nothing changes
  looks : (evicted : Option ℕ) → EvictsNext most now evicted before from after to
      → IfNone evicted (LooksOnly before.book after.book)
  looks None did = subst (λ (v : PartView). LooksOnly before.book v.book) (sym did.1) refl
  looks (Some chunk) did = tt

  -- and where one is it was linked
  was : (evicted : Option ℕ) → IfSome evicted (λ c. EndsAt c before.book after.book)
      → IfSome evicted (λ c. IsSome (linked_at before.book.sheet c))
  was None ends = tt
  was (Some chunk) ends = subst IsSome (sym ends.was.1) refl

  module _ (evicted : Option ℕ) (evicts : EvictsNext most now evicted before from after to)
      (ends : IfSome evicted (λ c. EndsAt c before.book after.book)) where
    -- the law holds of each item still
    pub evicted_lawful : (law : RowPredicate) → IsLawful law before → IsLawful law after
    evicted_lawful = refused_lawful before after evicted alike (stay before after evicted ends (looks evicted evicts))
        (was evicted ends) (gone before after evicted ends)

    -- under each other key stays what was there
    pub evicted_kept : AllKept (key_of_evicted evicted before) before after
    evicted_kept = refused_others before after evicted alike (stay before after evicted ends (looks evicted evicts))
        (was evicted ends) (gone before after evicted ends)

    -- and what is told is the row of an item that is gone
    pub evicted_told : (law : RowPredicate) (old row : List ℕ) → IsLawful law before
        → IsPart before.seed before.key_words before.book.sheet before.index → TellsRow true evicted old row before
        → Evicted law evicted old row before after
    evicted_told = refused_evicted before after evicted alike (stay before after evicted ends (looks evicted evicts))
        (was evicted ends) (gone before after evicted ends) true
