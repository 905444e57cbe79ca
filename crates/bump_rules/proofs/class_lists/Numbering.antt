-- Nodes as chunks: the lists of a class that links stand for, what a move of a node does to
-- them, and what is read of them.
use Rattle.std.proofs.Common.{◌≡◌, ◌≢◌, ℕ, zero, suc, ◌+◌, ◌-◌, ◌<◌, ◌≤◌, Bool, true, false, cond, eqb, ltb, List, [], ◌∷◌, length, get_or, set, map, Option, refl, sym, ◌∙◌, ap, subst, arith, inl, inr}
use Rattle.std.specs.Prelude.{option_map}
use Rattle.std.specs.List.{AllByRecursion, range_with_len}
use Rattle.std.proofs.lemmas.Bool.{ne_eqb, eq-eqb}
use Rattle.std.proofs.lemmas.Bool.Decides.{eqb_tells}
use Rattle.std.proofs.lemmas.List.Elements.{recursion_from_All}
use Rattle.std.proofs.lemmas.List.{length-map, get_or-set_same, get_or-set_other, get_or-map}
use Rattle.bump_links.specs.Lists.{times, without, first_of, last_of, next_of, begins_with, previous_of, moved_to_front, IsHeldBy}
use Rattle.bump_links.specs.Lists as links
use Rattle.bump_rules.specs.declared.places.Place.{Place}
use Rattle.bump_rules.specs.declared.places.Place.TheVariants.{Hot, Warm, Cold, Temp, Dying, Unused, Retired}
use Rattle.bump_rules.specs.History.{place_number, is_place}
use Rattle.bump_rules.specs.Lists.{list_at, lists_by, to_front, opening, IsListed}
use Rattle.bump_rules.specs.Places.{place_count}
use Rattle.bump_rules.specs.ClassLists.{chunks_from, listed_from, lists_from, AreSixLists}
use Rattle.bump_rules.proofs.SixLists.{same_lists, list_at_by, list_at_front}

-- Which list is at a place.

-- a place has one of the numbers
pub number_below : (p : Place) → place_number p < place_count
number_below Hot = omega arith
number_below Warm = omega arith
number_below Cold = omega arith
number_below Temp = omega arith
number_below Dying = omega arith
number_below Unused = omega arith
number_below Retired = omega arith

-- the list at a place is the one of its number
pub list_at_from : (first : ℕ) (s : links.Lists) (p : Place) → list_at (lists_from first s) p ≡ listed_from first s p
list_at_from first s p = list_at_by (listed_from first s) p

-- What a list of nodes shows as one of chunks.

-- a row of nodes from one number on is a row of chunks
pub chunks_range : (first a n : ℕ) → chunks_from first (range_with_len a n) ≡ range_with_len (first + a) n
chunks_range first a zero = refl
chunks_range first a (suc n) =
    let next : first + (a + 1) ≡ first + a + 1 = omega arith in
    ap (λ xs. (first + a) ∷ xs) (chunks_range first (a + 1) n ∙ ap (λ k. range_with_len k n) next)

-- new lists are those at the start
pub new_from : (first n : ℕ) → lists_from first (links.all_in_first n place_count (place_number Unused))
    ≡ opening first n
new_from first n =
    let none : first + 0 ≡ first = omega arith in
    let row = chunks_range first 0 n ∙ ap (λ k. range_with_len k n) none in
    λ i. lists_by (λ q. cond (is_place Unused q) (row i) [])

-- without a node is without its chunk
pub chunks_without : (first n : ℕ) (xs : List ℕ) → chunks_from first (without n xs)
    ≡ without (first + n) (chunks_from first xs)
chunks_without first n [] = refl
chunks_without first n (x ∷ xs) =
    elim (eqb_tells x n) [
      | inl t ↦ rw (t.0, eq-eqb (first + x) (first + n) (ap (λ k. first + k) t.1)) (chunks_without first n xs)
      | inr f ↦
          let apart : first + x ≢ first + n = (λ e. f.1 (omega (arith, e))) in
          rw (f.0, ne_eqb (first + x) (first + n) apart) (ap (λ r. (first + x) ∷ r) (chunks_without first n xs))
    ]

-- a node stands in a list as often as its chunk
pub chunks_times : (first n : ℕ) (xs : List ℕ) → times (first + n) (chunks_from first xs) ≡ times n xs
chunks_times first n [] = refl
chunks_times first n (x ∷ xs) =
    elim (eqb_tells x n) [
      | inl t ↦ rw (t.0, eq-eqb (first + x) (first + n) (ap (λ k. first + k) t.1)) (ap suc (chunks_times first n xs))
      | inr f ↦
          let apart : first + x ≢ first + n = (λ e. f.1 (omega (arith, e))) in
          rw (f.0, ne_eqb (first + x) (first + n) apart) (chunks_times first n xs)
    ]

-- the first node is the first chunk
pub chunks_first : (first : ℕ) (xs : List ℕ) → option_map (λ n. first + n) (first_of xs)
    ≡ first_of (chunks_from first xs)
chunks_first first [] = refl
chunks_first first (x ∷ xs) = refl

-- the last node is the last chunk
pub chunks_last : (first : ℕ) (xs : List ℕ) → option_map (λ n. first + n) (last_of xs) ≡ last_of (chunks_from first xs)
chunks_last first [] = refl
chunks_last first (x ∷ []) = refl
chunks_last first (x ∷ y ∷ ys) = chunks_last first (y ∷ ys)

-- the node that follows is the chunk that follows
pub chunks_next : (first n : ℕ) (xs : List ℕ) → option_map (λ k. first + k) (next_of n xs)
    ≡ next_of (first + n) (chunks_from first xs)
chunks_next first n [] = refl
chunks_next first n (x ∷ xs) =
    elim (eqb_tells x n) [
      | inl t ↦ rw (t.0, eq-eqb (first + x) (first + n) (ap (λ k. first + k) t.1)) (chunks_first first xs)
      | inr f ↦
          let apart : first + x ≢ first + n = (λ e. f.1 (omega (arith, e))) in
          rw (f.0, ne_eqb (first + x) (first + n) apart) (chunks_next first n xs)
    ]

-- a node is the first one where its chunk is
chunks_begin : (first n : ℕ) (xs : List ℕ) → begins_with (first + n) (chunks_from first xs) ≡ begins_with n xs
chunks_begin first n [] = refl
chunks_begin first n (x ∷ xs) =
    elim (eqb_tells x n) [
      | inl t ↦ rw (t.0, eq-eqb (first + x) (first + n) (ap (λ k. first + k) t.1)) refl
      | inr f ↦
          let apart : first + x ≢ first + n = (λ e. f.1 (omega (arith, e))) in
          rw (f.0, ne_eqb (first + x) (first + n) apart) refl
    ]

-- the node before is the chunk before
pub chunks_previous : (first n : ℕ) (xs : List ℕ) → option_map (λ k. first + k) (previous_of n xs)
    ≡ previous_of (first + n) (chunks_from first xs)
chunks_previous first n [] = refl
chunks_previous first n (x ∷ xs) = by (begins_with n xs) refl (chunks_previous first n xs)
  where
    by : (b : Bool) → begins_with n xs ≡ b
        → option_map (λ k. first + k) (previous_of n xs) ≡ previous_of (first + n) (chunks_from first xs)
        → option_map (λ k. first + k) (previous_of n (x ∷ xs)) ≡ previous_of (first + n) (chunks_from first (x ∷ xs))
    by true is rest = rw (is, chunks_begin first n xs ∙ is) refl
    by false is rest = rw (is, chunks_begin first n xs ∙ is) rest

-- What a move does.

-- a list by its number after a move: with the node in front where it is the target, and without it elsewhere
list_at_moved : (n t l : ℕ) (s : links.Lists) → l < length s.lists
    → links.list_at (moved_to_front n t s) l ≡ cond (eqb l t) (n ∷ without n (links.list_at s l))
    (without n (links.list_at s l))
list_at_moved n t l s below =
    let without_n = map (without n) s.lists in
    let at : get_or without_n l [] ≡ without n (get_or s.lists l []) = get_or-map (without n) s.lists l [] [] below in
    elim (eqb_tells l t) as (λ _. links.list_at (moved_to_front n t s) l
    ≡ cond (eqb l t) (n ∷ without n (links.list_at s l)) (without n (links.list_at s l))) [
      | inl e ↦
          let in_map : l < length without_n = subst (λ q. l < q) (sym (length-map s.lists (without n))) below in
          let put : get_or (set without_n l (n ∷ get_or without_n l [])) l [] ≡ n ∷ without n (get_or s.lists l []) =
          get_or-set_same without_n l (n ∷ get_or without_n l []) [] in_map ∙ ap (λ q. n ∷ q) at in
          rw e.0 (ap (λ q. get_or (links.put_before n q without_n) l []) (sym e.1) ∙ put)
      | inr f ↦
          rw f.0 (get_or-set_other without_n t l (n ∷ get_or without_n t []) [] f.1 ∙ at)
    ]

-- that list as one of chunks
chunks_moved : (first n : ℕ) (p q : Place) (xs : List ℕ)
    → chunks_from first (cond (eqb (place_number q) (place_number p)) (n ∷ without n xs) (without n xs))
    ≡ cond (is_place p q) ((first + n) ∷ without (first + n) (chunks_from first xs)) (without (first + n)
    (chunks_from first xs))
chunks_moved first n p q xs =
    elim (eqb_tells (place_number q) (place_number p)) [
      | inl t ↦ rw (t.0, eq-eqb (place_number p) (place_number q) (sym t.1)) (ap (λ r. (first + n) ∷ r)
          (chunks_without first n xs))
      | inr f ↦
          let apart : place_number p ≢ place_number q = (λ e. f.1 (sym e)) in
          rw (f.0, ne_eqb (place_number p) (place_number q) apart) (chunks_without first n xs)
    ]

-- the move of a node to the front is the move of its chunk
pub moved_from : (first n : ℕ) (p : Place) (s : links.Lists) → length s.lists ≡ place_count
    → lists_from first (moved_to_front n (place_number p) s) ≡ to_front (first + n) p (lists_from first s)
moved_from first n p s six =
    same_lists (lists_from first (moved_to_front n (place_number p) s)) (to_front (first + n) p (lists_from first s))
    (λ q.
    let below : place_number q < length s.lists = omega (arith, six, number_below q) in
    let C : List ℕ → List ℕ = λ xs. cond (is_place p q) ((first + n) ∷ without (first + n) xs)
    (without (first + n) xs) in
    list_at_from first (moved_to_front n (place_number p) s) q
    ∙ ap (chunks_from first) (list_at_moved n (place_number p) (place_number q) s below)
    ∙ chunks_moved first n p q (links.list_at s (place_number q))
    ∙ ap C (sym (list_at_from first s q))
    ∙ sym (list_at_front (first + n) p q (lists_from first s)))

-- Which chunks have a node.

-- a chunk of a list of nodes is counted from the first one, and its node is one of those
among : (first count c : ℕ) (xs : List ℕ) → AllByRecursion (λ n. n < count) xs → 0 < times c (chunks_from first xs)
    → (first ≤ c) × (c - first < count)
among first count c [] all some = absurd (omega (arith, some))
among first count c (x ∷ xs) all some =
    elim (eqb_tells (first + x) c) [
      | inl t ↦ (let is : first + x ≡ c = t.1 in let below : x < count = all.0 in (
        omega (arith, is),
        omega (
          arith,
          is,
          below,
        ),
      ))
      | inr f ↦ among first count c xs all.1 (rw f.0 at some)
    ]

-- the chunk that stands in the list at a place has a node, whose number from the first chunk on it is
pub record HasNode (first c : ℕ) (s : links.Lists) : Type 0 where
  pub from : first ≤ c
  pub node : c - first < s.nodes
  pub is : first + (c - first) ≡ c

module _ (first c : ℕ) (s : links.Lists) (six : AreSixLists first s) where
  -- a chunk that stands in the list at a place has a node
  pub node_at : (p : Place) → 0 < times c (list_at (lists_from first s) p) → HasNode first c s
  node_at p some =
      let l = place_number p in
      let in_nodes = among first s.nodes c (links.list_at s l) (recursion_from_All (λ n. n < s.nodes)
      (links.list_at s l) (six.each_once.only_nodes l))
      (subst (λ xs. 0 < times c xs) (list_at_from first s p) some) in
      let from : first ≤ c = in_nodes.0 in
      record { from = in_nodes.0; node = in_nodes.1; is = omega (arith, from) }

  -- so has one that stands in any
  pub node_of : IsListed c (lists_from first s) → HasNode first c s
  node_of listed = node_at listed.0 listed.1

  -- a chunk stands in the list at a place as often as its node in that list
  counted_at : (p : Place) → HasNode first c s → times c (list_at (lists_from first s) p)
      ≡ times (c - first) (links.list_at s (place_number p))
  counted_at p has = ap (times c) (list_at_from first s p) ∙ ap (λ k. times k (listed_from first s p)) (sym has.is)
      ∙ chunks_times first (c - first) (links.list_at s (place_number p))

  -- the list at a place that has the chunk is the one that holds its node
  pub held_at : (p : Place) → 0 < times c (list_at (lists_from first s) p) → IsHeldBy s (c - first) (place_number p)
  held_at p some =
      let has = node_at p some in
      let n = c - first in
      let l = place_number p in
      let holder = six.each_once.holder n has.node in
      elim (eqb_tells l holder.0) [
        | inl t ↦ subst (λ k. IsHeldBy s n k) (sym t.1) holder.1
        | inr f ↦
            let never : times n (links.list_at s l) ≡ 0 = holder.1.elsewhere l f.1 in
            absurd (omega (arith, some, counted_at p has, never))
      ]

  -- the list that holds the chunk's node is the one of a place exactly where the chunk stands there
  pub tells_at : (p : Place) (l n : ℕ) → HasNode first c s → IsHeldBy s (c - first) l → n ≡ place_number p → eqb l n
      ≡ ltb 0 (times c (list_at (lists_from first s) p))
  tells_at p l n has held is =
      elim (eqb_tells l n) [
        | inl t ↦
            let once : times (c - first) (links.list_at s (place_number p))
            ≡ 1 = ap (λ k. times (c - first) (links.list_at s k)) (sym is ∙ sym t.1) ∙ held.once in
            t.0 ∙ sym (ap (ltb 0) (counted_at p has ∙ once))
        | inr f ↦ f.0 ∙ sym (ap (ltb 0) (counted_at p has ∙ held.elsewhere (place_number p) (λ e. f.1 (sym (is ∙ e)))))
      ]

  -- a chunk that stands in the list at a place stands there once
  pub once_at : (p : Place) → 0 < times c (list_at (lists_from first s) p) → times c (list_at (lists_from first s) p)
      ≡ 1
  once_at p some = counted_at p (node_at p some) ∙ (held_at p some).once

-- What the readers of the links answer, of the list that has the number of a place.
module _ (first l : ℕ) (s : links.Lists) (p : Place) (is : l ≡ place_number p) where
  -- that list as one of chunks
  numbered_at : chunks_from first (links.list_at s l) ≡ list_at (lists_from first s) p
  numbered_at = ap (λ k. chunks_from first (links.list_at s k)) is ∙ sym (list_at_from first s p)

  -- its last chunk
  pub last_is : (o r : Option ℕ) → o ≡ last_of (links.list_at s l) → r ≡ option_map (λ n. first + n) o → r
      ≡ last_of (list_at (lists_from first s) p)
  last_is o r read as_chunk = as_chunk ∙ ap (option_map (λ n. first + n)) read ∙ chunks_last first (links.list_at s l)
      ∙ ap last_of numbered_at

  -- a chunk that moves to its front
  pub moved_is : (c : ℕ) → AreSixLists first s → HasNode first c s → lists_from first (moved_to_front (c - first) l s)
      ≡ to_front c p (lists_from first s)
  moved_is c six has = ap (λ k. lists_from first (moved_to_front (c - first) k s)) is
      ∙ moved_from first (c - first) p s six.six
      ∙ ap (λ k. to_front k p (lists_from first s)) has.is

-- the chunk that follows one that stands in the list at a place
pub next_is : (first c : ℕ) (s : links.Lists) (p : Place) (o r : Option ℕ) → AreSixLists first s
    → 0 < times c (list_at (lists_from first s) p)
    → links.IsNextOf s (c - first) o → r ≡ option_map (λ n. first + n) o → r
    ≡ next_of c (list_at (lists_from first s) p)
next_is first c s p o r six some read as_chunk =
    let xs = links.list_at s (place_number p) in
    as_chunk ∙ ap (option_map (λ n. first + n)) (read (place_number p) (held_at first c s six p some))
    ∙ chunks_next first (c - first) xs
    ∙ ap (λ k. next_of k (chunks_from first xs)) (node_at first c s six p some).is
    ∙ ap (next_of c) (sym (list_at_from first s p))

-- and the one before it
pub previous_is : (first c : ℕ) (s : links.Lists) (p : Place) (o r : Option ℕ) → AreSixLists first s
    → 0 < times c (list_at (lists_from first s) p)
    → links.IsPreviousOf s (c - first) o → r ≡ option_map (λ n. first + n) o → r
    ≡ previous_of c (list_at (lists_from first s) p)
previous_is first c s p o r six some read as_chunk =
    let xs = links.list_at s (place_number p) in
    as_chunk ∙ ap (option_map (λ n. first + n)) (read (place_number p) (held_at first c s six p some))
    ∙ chunks_previous first (c - first) xs
    ∙ ap (λ k. previous_of k (chunks_from first xs)) (node_at first c s six p some).is
    ∙ ap (previous_of c) (sym (list_at_from first s p))
