-- Elements of a list, and how many pass a test.
use Rattle.std.proofs.Common.{◌≡◌, ◌≢◌, ◌≤◌, ℕ, zero, suc, ◌+◌, ◌<◌, Bool, true, false, cond, List, [], ◌∷◌, ◌++◌, length, slice_index_or, refl, ap, ◌∙◌, arith}
use Rattle.std.specs.List.{Contains}
use Rattle.bump_rules.specs.Totals.{total, how_many}
use Rattle.bump_rules.proofs.Updates.{total_push}

-- a test that passes counts one
counts : (b : Bool) → b ≡ true → 0 < cond b 1 0
counts true e = omega arith
counts false e = absurd (let u : ⊥ = cc in u)

-- one more element at the end counts where it passes
pub how_many_push : {A : Type 0} (test : A → Bool) (xs : List A) (x : A) → how_many test (xs ++ x ∷ [])
    ≡ how_many test xs + cond (test x) 1 0
how_many_push test xs x = total_push (λ y. cond (test y) 1 0) xs x

-- where each element's term is 0 the sum is
pub total_of_none : {A : Type 0} (f : A → ℕ) (d : A) (xs : List A) → ((i : ℕ) → i < length xs
    → f (slice_index_or xs i d) ≡ 0) → total f xs ≡ 0
total_of_none f d [] none = refl
total_of_none f d (x ∷ xs) none = omega (
  arith,
  none 0 (omega arith),
  total_of_none f d xs (λ i within. none (suc i)
      (omega (arith, within))),
)

-- where no two elements' terms are more than 1 together, nor one alone, the sum is at most 1
pub total_at_most_one : {A : Type 0} (f : A → ℕ) (d : A) (xs : List A)
    → ((i : ℕ) → i < length xs → f (slice_index_or xs i d) ≤ 1)
    → ((i j : ℕ) → i < length xs → j < length xs → i ≢ j → f (slice_index_or xs i d) + f (slice_index_or xs j d) ≤ 1)
    → total f xs ≤ 1
total_at_most_one f d [] each pairs = omega arith
total_at_most_one f d (x ∷ xs) each pairs = by (f x) refl
    (total_at_most_one f d xs (λ i within. each (suc i) (omega (arith, within))) (λ i j i_in j_in other. pairs (suc i)
    (suc j) (omega (arith, i_in)) (omega (arith, j_in)) (λ e. other (omega (arith, e)))))
  where
    by : (n : ℕ) → f x ≡ n → total f xs ≤ 1 → total f (x ∷ xs) ≤ 1
    by zero is rest = omega (arith, is, rest)
    by (suc n) is rest = omega (
      arith,
      is,
      each 0 (omega arith),
      total_of_none f d xs (λ i within. let two : f x + f (slice_index_or xs i d) ≤ 1 = pairs 0 (suc i) (omega arith)
          (omega (arith, within)) (λ e. absurd (omega (arith, e))) in omega (arith, two, is)),
    )

-- a list that has an element that passes counts some
pub contained_counted : {A : Type 0} (test : A → Bool) (xs : List A) (x : A) → Contains xs x → test x ≡ true
    → 0 < how_many test xs
contained_counted test [] x (i, within, is) passes = absurd (omega arith)
contained_counted test (y ∷ xs) x (zero, within, is) passes = omega (arith, counts (test y) (ap test is ∙ passes))
contained_counted test (y ∷ xs) x (suc i, within, is) passes = omega (
  arith,
  contained_counted test xs x (
    i,
    omega arith,
    is,
  ) passes,
)
