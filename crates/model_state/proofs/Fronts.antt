-- Where the chunks of a lawful World stand in the lists of their classes.
use Rattle.std.proofs.Common.{Option, None, ◌≡◌, ℕ, ◌<◌, ◌&&◌, true, false, List, length, slice_index_or, Some, refl, sym, ap, ap₂, ◌∙◌, subst, arith}
use Rattle.std.proofs.lemmas.Bool.{and_parts, and_right}
use Rattle.std.specs.Prelude.{IfSome}
use Rattle.bump_rules.specs.declared.places.Segment.{Segment}
use Rattle.bump_rules.specs.declared.places.Place.{Place}
use Rattle.bump_rules.specs.declared.places.Place.TheVariants.{Unused}
use Rattle.bump_rules.specs.Lawful.{bit, Shows}
use Rattle.bump_rules.specs.History.{place_of, is_place}
use Rattle.bump_links.specs.Lists.{times, last_of}
use Rattle.bump_rules.specs.Lists.{list_at, IsListed}
use Rattle.model_state.specs.Events.{next_chunk}
use Rattle.model_state.specs.State.{State, ClassState, head_at, class_at, class_of}
use Rattle.model_state.specs.Worlds.{owns, place, place_in, IsClass, IsLawful}
use Rattle.model_state.proofs.LawfulStates.{unused_shown}
use Rattle.bump_rules.proofs.Laws.{bit_some, in_segment}
use Rattle.bump_rules.proofs.PlainLists.{times_at, first_there, last_there}
use Rattle.bump_rules.proofs.Replay.{replayed_lists}
use Rattle.bump_rules.proofs.Standings.{same_place, place_same}
use Rattle.model_state.proofs.Tiles.{class_within, class_owns, owner, owned_in_range}

-- the list of a lawful class at a place has a chunk once where its history leaves it there, and else not
pub in_lists : (k : ClassState) (c : ℕ) (q : Place) → IsClass k → times c (list_at k.lists q)
    ≡ bit (owns k c && is_place (place_in k c) q)
in_lists k c q o = ap (λ l. times c (list_at l q)) o.lists
    ∙ replayed_lists k.first k.end k.fresh c k.history o.entries q

module _ (s : State) (o : IsLawful s) where
  -- how often a chunk is in a list of a class
  pub times_in : (k c : ℕ) (q : Place) → k < length s.classes → times c (list_at (class_at s k).lists q)
      ≡ bit (owns (class_at s k) c && is_place (place_in (class_at s k) c) q)
  times_in k c q within = in_lists (class_at s k) c q (o.classes k within)

  -- a chunk that is in a list of a class is of the class, in range, and at that place
  pub listed : (k c : ℕ) (q : Place) → k < length s.classes → 0 < times c (list_at (class_at s k).lists q)
      → (class_of s c ≡ k) × (c < length s.chunks) × (place s c ≡ q)
  listed k c q within some =
      let both = and_parts (owns (class_at s k) c) (is_place (place_in (class_at s k) c) q) (bit_some _ (omega (
        arith,
        some,
        times_in k c q within,
      ))) in
      let own = owner s o.tiles k c within both.0 in (
        own,
        owned_in_range s o.tiles k c within both.0,
        ap (λ (j : ℕ). place_in (class_at s j) c) own
            ∙ same_place _ _ both.1,
      )

  -- a chunk in range is once in the list at its place
  pub once_at : (c : ℕ) (p : Place) → c < length s.chunks → place s c ≡ p
      → times c (list_at (class_at s (class_of s c)).lists p) ≡ 1
  once_at c p in_range is = times_in (class_of s c) c p (class_within s o.tiles c in_range)
      ∙ ap₂ (λ a b. bit (a && b)) (class_owns s o.tiles c in_range) (place_same _ _ is)

  -- and in no list at another place
  pub never_at : (c : ℕ) (p q : Place) → c < length s.chunks → place s c ≡ p → is_place p q ≡ false
      → times c (list_at (class_at s (class_of s c)).lists q) ≡ 0
  never_at c p q in_range is other = times_in (class_of s c) c q (class_within s o.tiles c in_range)
      ∙ ap bit (and_right _ _ (ap (λ at. is_place at q) is ∙ other))

  -- the last of HOT, WARM or COLD is in range, of the class, linked, and has the segment
  pub last_linked : (k c : ℕ) (g : Segment) → k < length s.classes
      → last_of (list_at (class_at s k).lists (place_of g)) ≡ Some c
      → (c < length s.chunks) × (class_of s c ≡ k) × ((head_at s c).linked ≡ true) × ((head_at s c).segment ≡ g)
  last_linked k c g within is =
      let at = listed k c (place_of g) within (last_there c _ is) in
      let shows = in_segment (head_at s c) g (subst (Shows (head_at s c)) at.2 (o.chunks c).shown) in
      (at.1, at.0, shows.0, shows.1)

  -- the next chunk of a class is of the class, in range and in UNUSED
  pub next_front : (k c : ℕ) → k < length s.classes → next_chunk s k ≡ Some c → (class_of s c ≡ k)
      × (c < length s.chunks) × (place s c ≡ Unused)
  next_front k c within is = listed k c Unused within (first_there c (class_at s k).lists.unused is)

  -- a chunk in range stands in one of the lists of its class
  pub listed_at : (c k : ℕ) → c < length s.chunks → k ≡ class_of s c → IsListed c (class_at s k).lists
  listed_at c k in_range of =
      let once : times c (list_at (class_at s (class_of s c)).lists (place s c))
      ≡ 1 = once_at c (place s c) in_range refl in
      subst (λ (j : ℕ). IsListed c (class_at s j).lists) (sym of) (place s c, omega (arith, once))

  -- the next chunk of a class is in range, of the class, and has a generation left
  pub next_free : (k c : ℕ) → k < length s.classes → next_chunk s k ≡ Some c → (c < length s.chunks) × (class_of s c
      ≡ k) × ((head_at s c).generation < 4294967295)
  next_free k c within is = let at = next_front k c within is in (at.1, at.0, (unused_shown s o c at.2).1)

  -- the same of what a look-up answered
  pub some_next : (k : ℕ) (o : Option ℕ) → k < length s.classes → o ≡ next_chunk s k
      → IfSome o (λ c. (c < length s.chunks) × (class_of s c ≡ k) × ((head_at s c).generation < 4294967295))
  some_next k None within is = tt
  some_next k (Some c) within is = next_free k c within (sym is)

  -- the chunks of a class's lists are in range
  pub listed_in_range : (k : ℕ) (q : Place) (xs : List ℕ) → k < length s.classes → xs ≡ list_at (class_at s k).lists q
      → (i d : ℕ) → i < length xs → slice_index_or xs i d < length s.chunks
  listed_in_range k q xs within is i d below = (listed k (slice_index_or xs i d) q within
      (subst (λ (ys : List ℕ). 0 < times (slice_index_or xs i d) ys) is
      (times_at (slice_index_or xs i d) xs i d below refl))).1

  -- the same of the last of HOT, WARM or COLD that a look-up answered
  pub some_last : (k : ℕ) (g : Segment) (r : Option ℕ) → k < length s.classes → r
      ≡ last_of (list_at (class_at s k).lists (place_of g))
      → IfSome r (λ c. (c < length s.chunks) × (class_of s c ≡ k) × ((head_at s c).linked ≡ true)
      × ((head_at s c).segment ≡ g))
  some_last k g None within is = tt
  some_last k g (Some c) within is = last_linked k c g within (sym is)
