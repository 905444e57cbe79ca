-- What making room leaves.
use Rattle.std.proofs.Common.{◌≡◌, ◌≢◌, ◌≤◌, inr, ℕ, Bool, List, Option, Some, None, IsSome, IfSome, IfNone, if◌then◌else◌, slice_set, refl, sym, ap, ◌∙◌, subst, eq-eqb, ne_eqb}
use Rattle.bump_steps.specs.declared.views.ClassSheet.{ClassSheet}
use Rattle.bump_steps.specs.Views.{last_word}
use Rattle.bump_class.specs.Books.{BookView}
use Rattle.bump_class.specs.Lanes.{LaneView}
use Rattle.cache_lists.specs.Counts.{CountedView}
use Rattle.cache_lists.specs.Items.{IsSameClass, KeepsItems, victim}
use Rattle.cache_lists.specs.Linked.{linked_at}
use Rattle.cache_index.specs.Views.{IndexView}
use Rattle.keyed_hash.specs.declared.seed.Seed.{Seed}
use Rattle.cache_part.specs.Keys.{key_at, IsItemOf}
use Rattle.cache_part.specs.Looks.{LooksOnly}
use Rattle.cache_part.specs.Parts.{IsPart}
use Rattle.cache_part.specs.Putting.{EndsEvicted, EvictsAndReads, EvictsWhereFull, OthersStay, TellsWords, linked_count, told_if}
use Rattle.cache_part.specs.Tending.{DrainsWhereHeld}
use Rattle.cache_part.proofs.Agreements.{some_without}
use Rattle.cache_part.proofs.KeyLemmas.{words_same, row_same}
use Rattle.cache_part.proofs.LookLemmas.{looks_keep}
use Rattle.cache_part.proofs.PartLemmas.{class_then, part_ended, part_kept}

-- what is told of words that stay
pub told_same : (tells : Bool) (count : ℕ) (evicted : Option ℕ) (from to : List ℕ) (class left : ClassSheet)
    → ((i c : ℕ) → last_word i left c ≡ last_word i class c) → TellsWords tells count evicted from to left
    → TellsWords tells count evicted from to class
told_same tells count None from to class left same told = told
told_same tells count (Some chunk) from to class left same told =
    told ∙ ap (λ row. told_if tells row from) (row_same class left chunk count (λ i. same i chunk))

-- where the key has none, and as many as may be are linked, one is evicted, or none is there
pub evicts_where_full : (items most now : ℕ) (old evicted : Option ℕ) (before : CountedView) (from : List LaneView)
    (after : CountedView) (to : List LaneView) → old ≡ None → items ≤ linked_count before.book.lists
    → IfSome evicted (λ chunk. EvictsAndReads most now chunk before from after to)
    → IfNone evicted (DrainsWhereHeld most now before from after to)
    → IfNone evicted (victim after.book.lists ≡ None)
    → EvictsWhereFull items most now old evicted before from after to
evicts_where_full items most now old None before from after to new full evicts drains none =
    inr (record { new = new; full = full; drains = drains; none = none })
evicts_where_full items most now old (Some chunk) before from after to new full evicts drains none =
    (new, full, evicts)

-- one is evicted only where the key had none
pub new_evicts : (items most now : ℕ) (old evicted : Option ℕ) (before : CountedView) (from : List LaneView)
    (after : CountedView) (to : List LaneView) → EvictsWhereFull items most now old evicted before from after to
    → IfSome evicted (λ c. old ≡ None)
new_evicts items most now old None before from after to evicts = tt
new_evicts items most now old (Some chunk) before from after to evicts = evicts.0

-- it stays a part where one is evicted, or none
pub part_evicted : (seed : Seed) (key_words : ℕ) (evicted : Option ℕ) (seen left : BookView) (from to : IndexView)
    → EndsEvicted evicted seen left → IfSome evicted (λ chunk. to.table ≡ slice_set from.table chunk None)
    → IfNone evicted (to ≡ from) → IsPart seed key_words seen.sheet from.table → IsPart seed key_words left.sheet to.table
part_evicted seed key_words None seen left from to ends some none is =
    subst (λ (i : IndexView). IsPart seed key_words left.sheet i.table) (sym none)
    (part_kept seed key_words seen left from.table is ends)
part_evicted seed key_words (Some chunk) seen left from to ends some none is =
    subst (IsPart seed key_words left.sheet) (sym some) (part_ended seed key_words seen left from.table is chunk ends)

-- what an evict leaves of the chunks, of the items and of the words
pub evicted_class : (evicted : Option ℕ) (seen left : BookView) → EndsEvicted evicted seen left → IsSameClass seen left
evicted_class None seen left ends = ends.class
evicted_class (Some chunk) seen left ends = ends.class

evicted_words : (evicted : Option ℕ) (seen left : BookView) → EndsEvicted evicted seen left
    → (i c : ℕ) → last_word i left.sheet c ≡ last_word i seen.sheet c
evicted_words None seen left ends = ends.words
evicted_words (Some chunk) seen left ends = ends.words

evicted_stay : (evicted : Option ℕ) (seen left : BookView) → EndsEvicted evicted seen left → (c : ℕ)
    → evicted ≢ Some c → linked_at left.sheet c ≡ linked_at seen.sheet c
evicted_stay None seen left ends c other = ends.linked c
evicted_stay (Some chunk) seen left ends c other = ends.linked c
    ∙ ap (λ b. if b then None else linked_at seen.sheet c) (ne_eqb chunk c (λ same. other (ap Some same)))

-- and what is linked behind it was linked
evicted_some : (evicted : Option ℕ) (seen left : BookView) → EndsEvicted evicted seen left → (c : ℕ)
    → IsSome (linked_at left.sheet c) → IsSome (linked_at seen.sheet c)
evicted_some None seen left ends c some = subst IsSome (ends.linked c) some
evicted_some (Some chunk) seen left ends c some =
    some_without chunk c (linked_at seen.sheet c) (subst IsSome (ends.linked c) some)

module _ (old evicted : Option ℕ) (before between seen left : BookView) (looks : LooksOnly before seen)
    (ends : EndsEvicted evicted seen left) (new : IfSome evicted (λ c. old ≡ None)) (frees : KeepsItems left between) where
  -- the chunks stay the Book's while room is made
  pub room_class : IsSameClass before between
  room_class = class_then before seen between (looks_keep before seen looks).class
      (class_then seen left between (evicted_class evicted seen left ends) frees.class)

  -- and the words of all chunks stay
  pub room_words : (i c : ℕ) → last_word i between.sheet c ≡ last_word i before.sheet c
  room_words i c = frees.words i c
      ∙ (evicted_words evicted seen left ends i c ∙ (looks_keep before seen looks).words i c)

  -- and so do the items that aren't evicted
  pub room_linked : (c : ℕ) → evicted ≢ Some c → linked_at between.sheet c ≡ linked_at before.sheet c
  room_linked c other = frees.linked c
      ∙ (evicted_stay evicted seen left ends c other ∙ (looks_keep before seen looks).linked c)

  pub room_stays : OthersStay None None evicted before between
  room_stays = record {
    linked = λ c chunk old_one other. room_linked c other;
    words = λ i c chunk. room_words i c;
  }

  -- what was evicted was linked, and the key had none
  pub room_another : IfSome evicted (λ c. IsSome (linked_at before.sheet c) × (old ≡ None))
  room_another = by evicted ends new
    where
      by : (told : Option ℕ) → EndsEvicted told seen left → IfSome told (λ c. old ≡ None)
          → IfSome told (λ c. IsSome (linked_at before.sheet c) × (old ≡ None))
      by None did none = tt
      by (Some chunk) did none = (
        subst IsSome (sym did.was.1 ∙ (looks_keep before seen looks).linked chunk) refl,
        none,
      )

  -- and is linked no more
  pub room_gone : IfSome evicted (λ c. linked_at between.sheet c ≡ None)
  room_gone = by evicted ends
    where
      by : (told : Option ℕ) → EndsEvicted told seen left → IfSome told (λ c. linked_at between.sheet c ≡ None)
      by None did = tt
      by (Some chunk) did = frees.linked chunk ∙ (did.linked chunk
          ∙ ap (λ b. if b then None else linked_at seen.sheet chunk) (eq-eqb chunk chunk refl))

  -- what is linked then was linked
  room_some : (c : ℕ) → IsSome (linked_at between.sheet c) → IsSome (linked_at before.sheet c)
  room_some c some = subst IsSome ((looks_keep before seen looks).linked c)
      (evicted_some evicted seen left ends c (subst IsSome (frees.linked c) some))

  -- the key's item stays where the key has one, and no item gets the key where it has none
  pub item_stays : (key_words : ℕ) (key : List ℕ) → IsItemOf key_words key old before.sheet
      → IsItemOf key_words key old between.sheet
  item_stays key_words key = by old refl
    where
      same : (c : ℕ) → key_at key_words between.sheet c ≡ key_at key_words before.sheet c
      same c = words_same before.sheet between.sheet c 0 key_words (λ i. room_words i c)

      none_evicted : (c : ℕ) → old ≡ Some c → (told : Option ℕ) → IfSome told (λ d. old ≡ None) → told ≢ Some c
      none_evicted c is None none e = absurd (cc e)
      none_evicted c is (Some chunk) none e = absurd (cc (sym is ∙ none))

      by : (at : Option ℕ) → old ≡ at → IsItemOf key_words key at before.sheet → IsItemOf key_words key at between.sheet
      by None is unknown = λ c has. unknown c (record { linked = room_some c has.linked; key = sym (same c) ∙ has.key })
      by (Some c) is has = record {
        linked = subst IsSome (sym (room_linked c (none_evicted c is evicted new))) has.linked;
        key = same c ∙ has.key;
      }
