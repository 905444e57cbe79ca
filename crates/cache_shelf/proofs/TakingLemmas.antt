-- What the end of the next item that has expired leaves of what a part keeps.
use Rattle.std.proofs.Common.{ℕ, List, Option, Some, None, IsSome, IfSome, IfNone, true}
use Rattle.bump_steps.specs.Rule.{RowPredicate}
use Rattle.cache_lists.specs.Items.{EndsAt}
use Rattle.cache_lists.specs.Linked.{linked_at}
use Rattle.cache_part.specs.Looks.{LooksOnly}
use Rattle.cache_part.specs.Parts.{PartView, IsPart}
use Rattle.cache_part.specs.Putting.{TellsRow}
use Rattle.cache_part.specs.Taking.{EndsTaken, TakesNext}
use Rattle.cache_shelf.specs.Entries.{AllKept, Evicted, key_of_evicted}
use Rattle.cache_shelf.specs.Shelves.{IsLawful}
use Rattle.cache_shelf.proofs.Keeping.{IsAlike}
use Rattle.cache_shelf.proofs.Putting.{refused_evicted, refused_lawful, refused_others}
use Rattle.cache_shelf.proofs.Removing.{gone, stay}

module _ (most now : ℕ) (before after : PartView) (alike : IsAlike before after) where
  -- where none is taken only loads are made
  looks : (taken : Option ℕ) → EndsTaken taken now before after → IfNone taken (LooksOnly before.book after.book)
  looks None ends = ends.looks
  looks (Some chunk) ends = tt

  -- and where one is it was linked
  was : (taken : Option ℕ) → TakesNext most now taken before after
      → IfSome taken (λ c. IsSome (linked_at before.book.sheet c))
  was None takes = tt
  was (Some chunk) takes = takes.finds.has.linked

  module _ (taken : Option ℕ) (takes : TakesNext most now taken before after)
      (ends : IfSome taken (λ c. EndsAt c before.book after.book)) where
    -- the law holds of each item still
    pub taken_lawful : (law : RowPredicate) → IsLawful law before → IsLawful law after
    taken_lawful = refused_lawful before after taken alike (stay before after taken ends (looks taken takes.ends))
        (was taken takes) (gone before after taken ends)

    -- under each other key stays what was there
    pub taken_kept : AllKept (key_of_evicted taken before) before after
    taken_kept = refused_others before after taken alike (stay before after taken ends (looks taken takes.ends))
        (was taken takes) (gone before after taken ends)

    -- and what is told is the row of an item that is gone
    pub taken_told : (law : RowPredicate) (from to : List ℕ) → IsLawful law before
        → IsPart before.seed before.key_words before.book.sheet before.index → TellsRow true taken from to before
        → Evicted law taken from to before after
    taken_told = refused_evicted before after taken alike (stay before after taken ends (looks taken takes.ends))
        (was taken takes) (gone before after taken ends) true
