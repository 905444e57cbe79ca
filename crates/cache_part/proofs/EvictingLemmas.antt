-- Where nothing can be evicted no item is linked, and nothing changed.
use Rattle.std.proofs.Common.{◌≡◌, ◌⊎◌, inl, inr, ℕ, ◌&&◌, Bool, true, false, List, [], ◌∷◌, Option, None, Some, IsSome, IfSome, IfNone, refl, sym, ap, ap₂, ◌∙◌, subst, arith}
use Rattle.bump_links.specs.Lists.{last_of, times}
use Rattle.bump_rules.specs.declared.places.Place.{Place}
use Rattle.bump_rules.specs.declared.places.Place.TheVariants.{Hot, Warm, Cold, Temp, Dying, Unused, Retired}
use Rattle.bump_rules.specs.declared.places.Segment.TheVariants as segment
use Rattle.bump_rules.specs.History.{is_place}
use Rattle.bump_rules.specs.Lawful.{bit}
use Rattle.bump_rules.proofs.PlainLists.{last_there}
use Rattle.bump_steps.specs.Views.{owns, standing}
use Rattle.bump_heads.specs.Linking.{place_of_chunk}
use Rattle.bump_class.specs.Books.{BookView, IsBook}
use Rattle.bump_class.specs.Lanes.{LaneView}
use Rattle.bump_class.proofs.Keeping.{times_in}
use Rattle.cache_lists.specs.ColdEnds.{SeesHeld}
use Rattle.cache_lists.specs.Counts.{CountedView}
use Rattle.cache_lists.specs.Items.{EndsAt, or_else, victim}
use Rattle.cache_lists.specs.Linked.{linked_at, linked_standing}
use Rattle.cache_lists.proofs.Standings.{listed_there, stands_linked}
use Rattle.cache_index.specs.Views.{IndexView}
use Rattle.cache_part.specs.Evicting.{EvictsNext, HasNoItem}
use Rattle.cache_part.specs.Parts.{PartView, counted}
use Rattle.cache_part.specs.Putting.{EndsEvicted, EvictsAndReads}
use Rattle.cache_part.specs.Tending.{DrainsEach, DrainsWhereHeld}
use Rattle.cache_part.proofs.ViewLemmas.{with_both}

-- a list without a last has nothing
none_last : (c : ℕ) (xs : List ℕ) → last_of xs ≡ None → times c xs ≡ 0
none_last c [] none = refl
none_last c (x ∷ xs) none = absurd (let no : ⊥ = cc none in no)

-- where it is neither the one's turn nor the other's there is neither
neither : (one other : Option ℕ) → or_else one other ≡ None → (one ≡ None) × (other ≡ None)
neither None other none = (refl, none)
neither (Some c) other none = absurd (let no : ⊥ = cc none in no)

-- where it is no item's turn none is linked
pub without_items : (book : BookView) → IsBook book
    → ((c : ℕ) → IsSome (linked_at book.sheet c) → owns c book.sheet ≡ true) → victim book.lists ≡ None
    → HasNoItem book
without_items book is own none chunk = by (linked_at book.sheet chunk) refl
  where
    colds : (last_of book.lists.cold ≡ None)
        × (or_else (last_of book.lists.warm) (or_else (last_of book.lists.hot) (last_of book.lists.temp)) ≡ None)
    colds = neither (last_of book.lists.cold) _ none

    warms : (last_of book.lists.warm ≡ None) × (or_else (last_of book.lists.hot) (last_of book.lists.temp) ≡ None)
    warms = neither (last_of book.lists.warm) _ colds.1

    hots : (last_of book.lists.hot ≡ None) × (last_of book.lists.temp ≡ None)
    hots = neither (last_of book.lists.hot) _ warms.1

    elsewhere : IsSome (linked_at book.sheet chunk) → (p : Place) → place_of_chunk book.sheet chunk ≡ p
        → IsSome (linked_standing (p, (standing book.sheet chunk).1))
    elsewhere some p at = subst (λ q. IsSome (linked_standing (q, (standing book.sheet chunk).1))) at some

    nowhere : IsSome (linked_at book.sheet chunk) → (p : Place) → place_of_chunk book.sheet chunk ≡ p → ⊥
    nowhere some Hot at =
        let once : times chunk book.lists.hot ≡ 1 = times_in book chunk Hot is
        ∙ ap₂ (λ a p. bit (a && is_place p Hot)) (own chunk some) at in
        omega (arith, once, none_last chunk book.lists.hot hots.0)
    nowhere some Warm at =
        let once : times chunk book.lists.warm ≡ 1 = times_in book chunk Warm is
        ∙ ap₂ (λ a p. bit (a && is_place p Warm)) (own chunk some) at in
        omega (arith, once, none_last chunk book.lists.warm warms.0)
    nowhere some Cold at =
        let once : times chunk book.lists.cold ≡ 1 = times_in book chunk Cold is
        ∙ ap₂ (λ a p. bit (a && is_place p Cold)) (own chunk some) at in
        omega (arith, once, none_last chunk book.lists.cold colds.0)
    nowhere some Temp at =
        let once : times chunk book.lists.temp ≡ 1 = times_in book chunk Temp is
        ∙ ap₂ (λ a p. bit (a && is_place p Temp)) (own chunk some) at in
        omega (arith, once, none_last chunk book.lists.temp hots.1)
    nowhere some Unused at = cc (elsewhere some Unused at)
    nowhere some Retired at = cc (elsewhere some Retired at)
    nowhere some Dying at = cc (elsewhere some Dying at)

    by : (at : Option ℕ) → linked_at book.sheet chunk ≡ at → linked_at book.sheet chunk ≡ None
    by None e = e
    by (Some generation) e =
        absurd (nowhere (subst IsSome (sym e) refl) (place_of_chunk book.sheet chunk) refl)

-- where none is linked COLD has no last one, which could be held: so no bump is applied, and nothing changes
pub still_where_none : (most now : ℕ) (before : CountedView) (from : List LaneView) (after : CountedView)
    (to : List LaneView) → IsBook before.book → HasNoItem before.book → DrainsWhereHeld most now before from after to
    → (after ≡ before) × (to ≡ from)
still_where_none most now before from after to is none did = by (last_of before.book.lists.cold) refl did.looks
  where
    by : (at : Option ℕ) → last_of before.book.lists.cold ≡ at → SeesHeld did.held at before.book did.looked
        → (after ≡ before) × (to ≡ from)
    by None e (unheld, same) = drained did.drains
      where
        drained : ((did.held ≡ false) × (after ≡ record before { book = did.looked }) × (to ≡ from))
            ⊎ ((did.held ≡ true) × DrainsEach most now did.looked from after.book to
            × (after.evictions ≡ before.evictions))
            → (after ≡ before) × (to ≡ from)
        drained (inl left) = (left.1 ∙ ap (λ (b : BookView). record before { book = b }) same, left.2)
        drained (inr left) = absurd (let no : ⊥ = cc (sym unheld ∙ left.0) in no)
    by (Some chunk) e sees =
        let there = listed_there before.book (λ c q. times_in before.book c q is) chunk Cold
        (last_there chunk before.book.lists.cold e) in
        let no : ⊥ = cc (sym (none chunk) ∙ stands_linked before.book.sheet chunk segment.Cold there.1) in absurd no

module _ (evicted : Option ℕ) (most now : ℕ) (before : CountedView) (from : List LaneView) (after : CountedView)
    (to : List LaneView) (was : IsBook before.book) (is : IsBook after.book)
    (own : (c : ℕ) → IsSome (linked_at after.book.sheet c) → owns c after.book.sheet ≡ true)
    (drains : IfNone evicted (DrainsWhereHeld most now before from after to))
    (none : IfNone evicted (victim after.book.lists ≡ None)) (ends : EndsEvicted evicted before.book after.book) where
  -- none is evicted only where none is linked
  pub empty_where_none : IfNone evicted (HasNoItem before.book)
  empty_where_none = by evicted none ends
    where
      by : (told : Option ℕ) → IfNone told (victim after.book.lists ≡ None) → EndsEvicted told before.book after.book
          → IfNone told (HasNoItem before.book)
      by None empty keeps = λ c. sym (keeps.linked c) ∙ without_items after.book is own empty c
      by (Some chunk) empty did = tt

  -- and then nothing changes
  pub same_where_none : IfNone evicted ((after ≡ before) × (to ≡ from))
  same_where_none = by evicted drains empty_where_none
    where
      by : (told : Option ℕ) → IfNone told (DrainsWhereHeld most now before from after to)
          → IfNone told (HasNoItem before.book) → IfNone told ((after ≡ before) × (to ≡ from))
      by None did empty = still_where_none most now before from after to was empty did
      by (Some chunk) did empty = tt

-- what was done with the lists and the index, told of the part
pub evicts_next : (evicted : Option ℕ) (most now : ℕ) (part before : PartView) (from : List LaneView) (left : CountedView)
    (to : List LaneView) (index now_index : IndexView) → part ≡ before
    → IfSome evicted (λ chunk. EvictsAndReads most now chunk (counted part) from left to)
    → IfNone evicted (HasNoItem part.book) → IfNone evicted ((left ≡ counted part) × (to ≡ from))
    → IfNone evicted (now_index ≡ index) → index.table ≡ part.index
    → EvictsNext most now evicted before from (with_both part left now_index.table) to
evicts_next None most now part before from left to index now_index is evicts none still same at = (
  subst (λ (v : PartView). HasNoItem v.book) is none,
  ap₂ (with_both part) still.0 (ap (λ (i : IndexView). i.table) same ∙ at) ∙ is,
  still.1,
)
evicts_next (Some chunk) most now part before from left to index now_index is evicts none still same at =
    subst (λ (v : PartView). EvictsAndReads most now chunk (counted v) from left to) is evicts

-- the one that was evicted ended
pub ended_at : (evicted : Option ℕ) (before after : BookView) → EndsEvicted evicted before after
    → IfSome evicted (λ chunk. EndsAt chunk before after)
ended_at None before after did = tt
ended_at (Some chunk) before after did = did
