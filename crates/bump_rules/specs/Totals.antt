-- Sums over a list.
use Rattle.std.specs.Prelude.{ℕ, ◌+◌, Bool, cond, List, [], ◌∷◌}

-- the sum of f over the elements
abbrev pub total : {A : Type 0} → (A → ℕ) → List A → ℕ
total weight [] = 0
total weight (element ∷ elements) = weight element + total weight elements

-- how many elements pass the test
abbrev pub how_many : {A : Type 0} → (A → Bool) → List A → ℕ
how_many test elements = total (λ element. cond (test element) 1 0) elements
