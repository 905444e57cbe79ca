-- Sums over lists that change at one place.
use Rattle.std.proofs.Common.{◌≡◌, ℕ, zero, suc, ◌+◌, ◌≤◌, List, [], ◌∷◌, set, sym, refl, ap, arith}
use mathlib.Core.Option.{some, some-injective, some-ne-none}
use lib.ListN.{get_elem?}
use Rattle.bump_rules.specs.Totals.{total}
use Rattle.bump_rules.proofs.Updates.{total_below}
use Rattle.bump_steps.specs.Plays.{behind, first_as_list}

module _ {A : Type 0} (g : A → ℕ) where
  -- one element is written over
  pub total-set : (l : List A) (j : ℕ) (v w : A) → get_elem? l j ≡ some v → total g (set l j w) + g v ≡ total g l + g
      w
  total-set [] j v w e = absurd (some-ne-none v (sym e))
  total-set (x ∷ xs) zero v w e = omega (arith, ap g (some-injective x v e))
  total-set (x ∷ xs) (suc j) v w e = omega (arith, total-set xs j v w e)

  -- an element's term is at most the sum
  pub term_le : (l : List A) (j : ℕ) (v : A) → get_elem? l j ≡ some v → g v ≤ total g l
  term_le [] j v e = absurd (some-ne-none v (sym e))
  term_le (x ∷ xs) zero v e = omega (arith, ap g (some-injective x v e))
  term_le (x ∷ xs) (suc j) v e = omega (arith, term_le xs j v e)

module _ {A : Type 0} (f g : A → ℕ) (below : (x : A) → f x ≤ g x) where
  -- of two sums, one below the other term by term, also without one term
  pub others_le : (l : List A) (j : ℕ) (v : A) → get_elem? l j ≡ some v → total f l + g v ≤ total g l + f v
  others_le [] j v e = absurd (some-ne-none v (sym e))
  others_le (x ∷ xs) zero v e = omega (
    arith,
    total_below f g below xs,
    ap g (some-injective x v e),
    ap f (some-injective x v e),
  )
  others_le (x ∷ xs) (suc j) v e = omega (arith, others_le xs j v e, below x)

-- where a sum is 0, a sum whose terms are 0 with its terms is 0
pub none_where_none : {A : Type 0} (f g : A → ℕ) → ((x : A) → f x ≡ 0 → g x ≡ 0) → (l : List A) → total f l ≡ 0
    → total g l ≡ 0
none_where_none f g h [] e = refl
none_where_none f g h (x ∷ xs) e = omega (arith, h x (omega arith), none_where_none f g h xs (omega arith))

-- a list's first, and what is behind it
pub cut : {A : Type 0} (f : A → ℕ) (l : List A) → total f (behind l) + total f (first_as_list l) ≡ total f l
cut f [] = refl
cut f (x ∷ xs) = omega arith
