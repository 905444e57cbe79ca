-- Loops over lists and over numbers from 0 on, and what they print.
use Rattle.std.proofs.Common.{◌≡◌, ℕ, suc, ◌+◌, ◌-◌, ◌<◌, ◌≤◌, sym, ap, ◌∙◌, subst, All, List, [], ◌∷◌, ◌++◌, append_assoc, arith}
use Rattle.std.specs.List.{flat_map}
use Rattle.bump_rules.specs.Lists.{ascending}

-- one more number is the first, and then the others
ascending_suc : (c n m : ℕ) → m ≡ suc n → ascending c m ≡ c ∷ ascending (c + 1) n
ascending_suc c n m e = ap (ascending c) e

-- the next number, and those behind it
pub ascending_more : (c end : ℕ) → c < end → ascending c (end - c) ≡ c ∷ ascending (c + 1) (end - (c + 1))
ascending_more c end below = ascending_suc c (end - (c + 1)) (end - c) (omega arith)

-- past the end there is no number
pub ascending_done : (c end : ℕ) → end ≤ c → ascending c (end - c) ≡ []
ascending_done c end past = let none : end - c ≡ 0 = omega arith in ap (ascending c) none

-- the text so far, and that of what is left of a list
pub printed_next : {A : Type 0} (f : A → List ℕ) (out new all : List ℕ) (c : A) (cs rest : List A) → cs ≡ c ∷ rest → new ≡ out ++ f c → out ++ flat_map f cs ≡ all → new ++ flat_map f rest ≡ all
printed_next f out new all c cs rest is put so_far =
    ap (λ l. l ++ flat_map f rest) put ∙ append_assoc out (f c) (flat_map f rest) ∙ ap (λ l. out ++ flat_map f l) (sym is) ∙ so_far

-- what holds of all holds of what is left
pub all_rest : {A : Type 0} (P : A → Type 0) (c : A) (cs rest : List A) → cs ≡ c ∷ rest → All P cs → All P rest
all_rest P c cs rest is all = let whole = subst (All P) is all in λ i d within. whole (suc i) d (omega (arith, within))

-- the text so far, and that of the numbers from the next one on
pub printed_more : (f : ℕ → List ℕ) (out new all : List ℕ) (c end : ℕ) → c < end → new ≡ out ++ f c
    → out ++ flat_map f (ascending c (end - c)) ≡ all → new ++ flat_map f (ascending (c + 1) (end - (c + 1))) ≡ all
printed_more f out new all c end below put so_far =
    printed_next f out new all c (ascending c (end - c)) (ascending (c + 1) (end - (c + 1))) (ascending_more c end below) put so_far
