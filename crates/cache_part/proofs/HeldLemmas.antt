-- What a sweep leaves in DYING is held.
use Rattle.std.proofs.Common.{◌≡◌, ◌≢◌, ◌⊎◌, inl, inr, ℕ, zero, suc, ◌<◌, Bool, true, false, cond, if◌then◌else◌, ◌==◌, ◌&&◌, List, [], ◌∷◌, ◌++◌, Option, None, length, refl, sym, ap, ap₂, ◌∙◌, subst, arith, eq-eqb, ne_eqb}
use mathlib.Core.Logic.{dite}
use native.Mathlib.Decide.{ℕ_discrete}
use Rattle.bump_links.specs.Lists.{first_of, times}
use Rattle.bump_rules.specs.declared.history.Change.{Change}
use Rattle.bump_rules.specs.declared.history.Change.TheVariants as change
use Rattle.bump_rules.specs.declared.items.Head.{Head}
use Rattle.bump_rules.specs.declared.items.ItemId.{ItemId}
use Rattle.bump_rules.specs.declared.places.Place.{Place}
use Rattle.bump_rules.specs.declared.places.Place.TheVariants.{Hot, Warm, Cold, Temp, Dying, Unused, Retired}
use Rattle.bump_rules.specs.History.{Standing, freed_change, is_place, standing_after, standing_from, standing_in, subject, target}
use Rattle.bump_rules.specs.Lawful.{bit}
use Rattle.bump_rules.specs.Lives.{life}
use Rattle.bump_rules.specs.Sweeps.{swept_changes, swept_of, unheld}
use Rattle.bump_rules.specs.Tables.{is_unheld}
use Rattle.bump_rules.proofs.PlainLists.{times_other}
use Rattle.bump_steps.specs.Views.{owns}
use Rattle.bump_heads.specs.Linking.{place_of_chunk}
use Rattle.bump_class.specs.Books.{BookView, IsBook}
use Rattle.bump_class.specs.Lanes.{LaneView}
use Rattle.bump_class.specs.Sweeps.{Sweeps, swept_book}
use Rattle.bump_class.proofs.Keeping.{times_in}
use Rattle.cache_lists.specs.Counts.{CountedView}
use Rattle.cache_lists.specs.Freeing.{FreesUpTo, most_freed}
use Rattle.cache_lists.specs.Linked.{linked_at, linked_standing}
use Rattle.cache_part.specs.Putting.{DrainsAndSweeps, FindsNone, FreesAtLast, FreesSome, FreesWhereNone, IsFoundHeld, MakesRoom}

-- what is freed goes to UNUSED or to RETIRED
freed_elsewhere : (item : ItemId) → target (freed_change item) ≢ Dying
freed_elsewhere item = by (item.generation == 4294967295)
  where
    by : (b : Bool) → target (if b then change.Retired item else change.Swept item) ≢ Dying
    by true is = cc is
    by false is = cc is

-- and the entry speaks of its chunk
freed_chunk : (item : ItemId) → (subject (freed_change item)).chunk ≡ item.chunk
freed_chunk item = by (item.generation == 4294967295)
  where
    by : (b : Bool) → (subject (if b then change.Retired item else change.Swept item)).chunk ≡ item.chunk
    by true = refl
    by false = refl

-- Where a sweep of these chunks leaves a chunk in DYING it was there, and where it was looked at it was held.
abbrev StaysHeld : (ℕ → Head) → List ℕ → ℕ → Standing → List Change → Type 0
StaysHeld heads looked c at entries = (standing_from c at entries).0 ≡ Dying
    → (at.0 ≡ Dying) × (0 < times c looked → is_unheld (heads c) ≡ false)

-- one look more, at the front
one_look : (heads : ℕ → Head) (x : ℕ) (xs : List ℕ) (c : ℕ) (at : Standing) (b : Bool) → is_unheld (heads x) ≡ b
    → ((to : Standing) → StaysHeld heads xs c to (swept_of heads xs))
    → StaysHeld heads (x ∷ xs) c at (swept_changes heads (cond b (x ∷ unheld heads xs) (unheld heads xs)))
one_look heads x xs c at true free rest dying =
    let e = freed_change (life x (heads x).generation) in
    let of : (subject e).chunk ≡ x = freed_chunk (life x (heads x).generation) in
    let more = rest (standing_after c at e) dying in
    dite (ℕ_discrete x c)
    (λ same. absurd (freed_elsewhere (life x (heads x).generation)
    (sym (ap (λ (b : Bool). (cond b (target e, (subject e).generation) at).0) (eq-eqb (subject e).chunk c (of ∙ same)))
    ∙ more.0)))
    (λ other. (
      sym (ap (λ (b : Bool). (cond b (target e, (subject e).generation) at).0)
          (ne_eqb (subject e).chunk c (λ is. other (sym of ∙ is)))) ∙ more.0,
      λ some. more.1 (subst (λ n. 0 < n) (times_other c x xs other) some),
    ))
one_look heads x xs c at false held rest dying =
    let more = rest at dying in (
      more.0,
      λ some. dite (ℕ_discrete x c)
          (λ same. subst (λ d. is_unheld (heads d) ≡ false) same held)
          (λ other. more.1 (subst (λ n. 0 < n) (times_other c x xs other) some)),
    )

-- so it is of the whole list
stays_held : (heads : ℕ → Head) (looked : List ℕ) (c : ℕ) (at : Standing) → StaysHeld heads looked c at (swept_of heads looked)
stays_held heads [] c at dying = (dying, λ some. absurd (let no : ⊥ = omega (arith, some) in no))
stays_held heads (x ∷ xs) c at dying =
    one_look heads x xs c at (is_unheld (heads x)) refl (λ to. stays_held heads xs c to) dying

-- entries behind a history go on from where it left a chunk
standing_goes_on : (c : ℕ) (at : Standing) (history entries : List Change)
    → standing_from c at (history ++ entries) ≡ standing_from c (standing_from c at history) entries
standing_goes_on c at [] entries = refl
standing_goes_on c at (e ∷ history) entries = standing_goes_on c (standing_after c at e) history entries

-- a number that isn't 0 is greater
some_refs : (head : Head) → is_unheld head ≡ false → 0 < head.refs
some_refs head held = by head.refs refl
  where
    by : (n : ℕ) → head.refs ≡ n → 0 < head.refs
    by zero none = absurd (let no : ⊥ = cc (sym held ∙ eq-eqb head.refs 0 none) in no)
    by (suc n) some = omega (arith, some)

-- what a sweep of DYING leaves there was looked at, and found held
pub left_held : (drained after : BookView) (freed : ℕ) (heads : ℕ → Head) → IsBook drained → Sweeps drained freed after heads
    → (chunk : ℕ) → owns chunk after.sheet ≡ true → place_of_chunk after.sheet chunk ≡ Dying
    → IsFoundHeld drained heads chunk
left_held drained after freed heads is sweeps chunk own dying =
    let swept = swept_book heads drained.lists.dying drained in
    let owned : owns chunk drained.sheet ≡ true =
    subst (λ (b : BookView). owns chunk b.sheet ≡ true) sweeps.after own in
    let there : place_of_chunk swept.sheet chunk ≡ Dying =
    subst (λ (b : BookView). place_of_chunk b.sheet chunk ≡ Dying) sweeps.after dying in
    let both = stays_held heads drained.lists.dying chunk
    (standing_in drained.sheet.fresh drained.sheet.history chunk)
    (sym (ap (λ (s : Standing). s.0) (standing_goes_on chunk (Unused, drained.sheet.fresh) drained.sheet.history
    (swept_of heads drained.lists.dying))) ∙ there) in
    let once : times chunk drained.lists.dying ≡ 1 = times_in drained chunk Dying is
    ∙ ap₂ (λ a p. bit (a && is_place p Dying)) owned both.0 in
    let looked : 0 < times chunk drained.lists.dying = omega (arith, once) in
    (looked, some_refs (heads chunk) (both.1 looked))

-- a list without a first has nothing
none_there : (c : ℕ) (xs : List ℕ) → first_of xs ≡ None → times c xs ≡ 0
none_there c [] none = refl
none_there c (x ∷ xs) none = absurd (let no : ⊥ = cc none in no)

-- where no chunk is free each one that has no item has had its last generation, or is in DYING
pub retired_or_dying : (after : BookView) → IsBook after → first_of after.lists.unused ≡ None → (chunk : ℕ)
    → owns chunk after.sheet ≡ true → linked_at after.sheet chunk ≡ None
    → (place_of_chunk after.sheet chunk ≡ Retired) ⊎ (place_of_chunk after.sheet chunk ≡ Dying)
retired_or_dying after is full chunk own unlinked = by (place_of_chunk after.sheet chunk) refl
  where
    linked : (p : Place) → place_of_chunk after.sheet chunk ≡ p
        → linked_standing (p, (standing_in after.sheet.fresh after.sheet.history chunk).1) ≡ None
    linked p at = sym (ap (λ q. linked_standing (q, (standing_in after.sheet.fresh after.sheet.history chunk).1)) at) ∙ unlinked

    by : (p : Place) → place_of_chunk after.sheet chunk ≡ p
        → (place_of_chunk after.sheet chunk ≡ Retired) ⊎ (place_of_chunk after.sheet chunk ≡ Dying)
    by Hot at = absurd (let no : ⊥ = cc (linked Hot at) in no)
    by Warm at = absurd (let no : ⊥ = cc (linked Warm at) in no)
    by Cold at = absurd (let no : ⊥ = cc (linked Cold at) in no)
    by Temp at = absurd (let no : ⊥ = cc (linked Temp at) in no)
    by Unused at =
        let once : times chunk after.lists.unused ≡ 1 = times_in after chunk Unused is
        ∙ ap₂ (λ a p. bit (a && is_place p Unused)) own at in
        absurd (let no : ⊥ = omega (arith, once, none_there chunk after.lists.unused full) in no)
    by Retired at = inl at
    by Dying at = inr at

-- what has a first isn't empty
some_first : (xs : List ℕ) → 0 < length xs → first_of xs ≡ None → ⊥
some_first [] some none = omega (arith, some)
some_first (x ∷ xs) some none = cc none

-- nothing is counted as evicted while chunks come free
pub at_last_evictions : (most now : ℕ) (before : CountedView) (from : List LaneView) (after : CountedView)
    (to : List LaneView) → FreesAtLast most now before from after to → after.evictions ≡ before.evictions
at_last_evictions most now before from after to did = by did.ends
  where
    first : did.swept.evictions ≡ before.evictions
    first = ap (λ (v : CountedView). v.evictions) did.frees.same

    by : ((0 < length did.swept.book.lists.unused) × (after ≡ did.swept) × (to ≡ from))
        ⊎ ((length did.swept.book.lists.unused ≡ 0) × DrainsAndSweeps most now did.swept from after to)
        → after.evictions ≡ before.evictions
    by (inl ended) = ap (λ (v : CountedView). v.evictions) ended.1 ∙ first
    by (inr ended) = ap (λ (v : CountedView). v.evictions) ended.1.same ∙ (ended.1.evictions ∙ first)

-- where room was made and no chunk is free, each one that has no item has had its last generation or was found held
pub finds_none : (items now : ℕ) (old evicted : Option ℕ) (most : ℕ) (before : CountedView) (from : List LaneView)
    (after : CountedView) (to : List LaneView) → MakesRoom items now old evicted most before from after to
    → first_of after.book.lists.unused ≡ None → IsBook after.book
    → FindsNone items now old evicted most before from after to
finds_none items now old evicted most before from after to room full is = by room.frees
  where
    ends : (last : FreesAtLast most now room.left room.between after to)
        → ((0 < length last.swept.book.lists.unused) × (after ≡ last.swept) × (to ≡ room.between))
        ⊎ ((length last.swept.book.lists.unused ≡ 0) × DrainsAndSweeps most now last.swept room.between after to)
        → FindsNone items now old evicted most before from after to
    ends last (inl ended) = absurd (some_first last.swept.book.lists.unused ended.0
        (subst (λ (v : CountedView). first_of v.book.lists.unused ≡ None) ended.1 full))
    ends last (inr ended) = record {
      room = room;
      full = full;
      swept = last.swept;
      frees = last.frees;
      all = ended.1;
      each = λ chunk own unlinked. held chunk own (retired_or_dying after.book is full chunk own unlinked);
    }
      where
        held : (chunk : ℕ) → owns chunk after.book.sheet ≡ true
            → (place_of_chunk after.book.sheet chunk ≡ Retired) ⊎ (place_of_chunk after.book.sheet chunk ≡ Dying)
            → (place_of_chunk after.book.sheet chunk ≡ Retired)
            ⊎ IsFoundHeld ended.1.drained.book ended.1.heads chunk
        held chunk own (inl retired) = inl retired
        held chunk own (inr dying) = inr (ended.1.held chunk own dying)

    by : FreesWhereNone most now room.left room.between after to → FindsNone items now old evicted most before from after to
    by (inl free) = absurd (some_first room.left.book.lists.unused free.0
        (subst (λ (v : CountedView). first_of v.book.lists.unused ≡ None) free.1 full))
    by (inr last) = ends last.1 last.1.ends

-- some chunks came free, and nothing else changed
pub freed_some : (before after : CountedView) (freed : ℕ)
    → ((heads : ℕ → Head) × FreesUpTo most_freed before.book freed after.book heads)
    → (after.flow ≡ before.flow) × (after.evictions ≡ before.evictions) → FreesSome before after
freed_some before after freed frees counts = record {
  freed = freed;
  heads = frees.0;
  frees = frees.1;
  same = λ i. record { book = after.book; flow = counts.0 i; evictions = counts.1 i };
}
