-- The chunks in a list of a Book are of its class.
use Rattle.std.proofs.Common.{◌≡◌, ℕ, ◌<◌, Bool, true, false, ◌&&◌, List, [], ◌∷◌, refl, arith}
use Rattle.std.specs.List.{All}
use Rattle.std.proofs.lemmas.List.Elements.{All-nil, All-cons}
use Rattle.std.proofs.lemmas.Bool.Decides.{nat_tests}
use Rattle.bump_links.specs.Lists.{times}
use Rattle.bump_rules.specs.Lawful.{bit}
use Rattle.bump_steps.specs.Views.{owns}
use Rattle.bump_steps.specs.declared.views.ClassSheet.{ClassSheet}

-- what stands in the rest of a list stands in the list
times_rest : (n x : ℕ) (xs : List ℕ) → 0 < times n xs → 0 < times n (x ∷ xs)
times_rest n x xs h = grind (arith, nat_tests)

-- the first element stands in its list
times_first : (x : ℕ) (xs : List ℕ) → 0 < times x (x ∷ xs)
times_first x xs = grind (arith, nat_tests)

-- what holds of all that stands in a list holds of each of its elements
each_listed : (P : ℕ → Type 0) (xs : List ℕ) → ((n : ℕ) → 0 < times n xs → P n) → All P xs
each_listed P [] h = All-nil P
each_listed P (x ∷ xs) h =
    All-cons P x xs (h x (times_first x xs)) (each_listed P xs (λ n q. h n (times_rest n x xs q)))

-- where both hold the first does
first_of_both : (a b : Bool) → 0 < bit (a && b) → a ≡ true
first_of_both true b h = refl
first_of_both false b h = absurd (omega arith)

-- A list in which those chunks stand that the class has, and of which more is true, has chunks of the class alone.
pub listed_chunks : (class : ClassSheet) (more : ℕ → Bool) (xs : List ℕ) → ((n : ℕ) → times n xs ≡ bit (owns n class && more n))
    → All (λ n. owns n class ≡ true) xs
listed_chunks class more xs same =
    each_listed (λ n. owns n class ≡ true) xs (λ n h. first_of_both (owns n class) (more n) (rw (same n) at h))
