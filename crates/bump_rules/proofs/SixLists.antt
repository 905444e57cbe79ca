-- The seven lists of a class and their places: which list is at a place, and what a move to the front does to each.
use Rattle.std.proofs.Common.{◌≡◌, ℕ, ◌≢◌, cond, eqb, Bool, true, false, List, ◌∷◌, refl, sym, ap, ◌∙◌, arith, eq-eqb, ne_eqb}
use native.Mathlib.Decide.{ℕ_discrete}
use Rattle.bump_rules.specs.declared.places.Place.{Place}
use Rattle.bump_rules.specs.declared.places.Place.TheVariants.{Hot, Warm, Cold, Temp, Dying, Unused, Retired}
use Rattle.bump_rules.specs.History.{is_place}
use Rattle.bump_rules.specs.Lawful.{bit}
use Rattle.bump_rules.specs.Lists.{Lists, list_at, lists_by, all_without, to_front, IsListed}
use Rattle.bump_links.specs.Lists.{times, without}
use Rattle.bump_links.proofs.ListsLemmas.{times-without_same, times-without_other}
use Rattle.bump_rules.proofs.Standings.{place_same}
use Rattle.bump_rules.proofs.PlainLists.{times_same, times_other}

-- The list at a place.

-- lists that agree at each place are the same
pub same_lists : (l m : Lists) → ((q : Place) → list_at l q ≡ list_at m q) → l ≡ m
same_lists l m e = λ i. lists_by (λ q. e q i)

-- the list at a place of lists that are given by place
pub list_at_by : (f : Place → List ℕ) (q : Place) → list_at (lists_by f) q ≡ f q
list_at_by f Hot = refl
list_at_by f Warm = refl
list_at_by f Cold = refl
list_at_by f Temp = refl
list_at_by f Dying = refl
list_at_by f Unused = refl
list_at_by f Retired = refl

-- each list without the chunk
pub list_at_without : (c : ℕ) (q : Place) (l : Lists) → list_at (all_without c l) q ≡ without c (list_at l q)
list_at_without c q l = list_at_by (λ p. without c (list_at l p)) q

-- the list at a place after a move to the front
pub list_at_front : (c : ℕ) (p q : Place) (l : Lists) → list_at (to_front c p l) q
    ≡ cond (is_place p q) (c ∷ without c (list_at l q)) (without c (list_at l q))
list_at_front c p q l =
    list_at_by (λ r. cond (is_place p r) (c ∷ list_at (all_without c l) r) (list_at (all_without c l) r)) q
    ∙ ap (λ xs. cond (is_place p q) (c ∷ xs) xs) (list_at_without c q l)

-- how often a chunk is in a list after a move of some chunk to the front
pub times_front : (c d : ℕ) (p q : Place) (l : Lists) → times c (list_at (to_front d p l) q)
    ≡ cond (eqb d c) (bit (is_place p q)) (times c (list_at l q))
times_front c d p q l = ap (times c) (list_at_front d p q l) ∙ by (ℕ_discrete d c)
  where
    here : d ≡ c → (b : Bool) → times c (cond b (d ∷ without d (list_at l q)) (without d (list_at l q))) ≡ bit b
    here s true = omega (
      arith,
      times_same c d (without d (list_at l q)) s,
      ap (λ (x : ℕ). times c (without x (list_at l q))) s,
      times-without_same c (list_at l q),
    )
    here s false = ap (λ (x : ℕ). times c (without x (list_at l q))) s ∙ times-without_same c (list_at l q)

    there : d ≢ c → (b : Bool) → times c (cond b (d ∷ without d (list_at l q)) (without d (list_at l q)))
        ≡ times c (list_at l q)
    there n true = times_other c d (without d (list_at l q)) n ∙ times-without_other c d (list_at l q) (λ q. n (sym q))
    there n false = times-without_other c d (list_at l q) (λ q. n (sym q))

    by : Dec (d ≡ c) → times c (cond (is_place p q) (d ∷ without d (list_at l q)) (without d (list_at l q)))
        ≡ cond (eqb d c) (bit (is_place p q)) (times c (list_at l q))
    by (yes s) = here s (is_place p q) ∙ ap (λ b. cond b (bit (is_place p q)) (times c (list_at l q)))
        (sym (eq-eqb d c s))
    by (no n) = there n (is_place p q) ∙ ap (λ b. cond b (bit (is_place p q)) (times c (list_at l q)))
        (sym (ne_eqb d c n))

-- a chunk that stands in one of the lists stands in one after a move of some chunk to the front
pub listed_front : (c d : ℕ) (p : Place) (l : Lists) → IsListed c l → IsListed c (to_front d p l)
listed_front c d p l at = by (ℕ_discrete d c)
  where
    by : Dec (d ≡ c) → IsListed c (to_front d p l)
    by (yes s) = (
      p,
      omega (
        arith,
        times_front c d p p l,
        ap (λ b. cond b (bit (is_place p p)) (times c (list_at l p))) (eq-eqb d c s),
        ap bit (place_same p p refl),
      ),
    )
    by (no n) = (
      at.0,
      omega (
        arith,
        at.1,
        times_front c d p at.0 l,
        ap (λ b. cond b (bit (is_place p at.0)) (times c (list_at l at.0))) (ne_eqb d c n),
      ),
    )
