-- Lemmas on lines that are read piece by piece.
use Rattle.std.proofs.Common.{◌≡◌, ℕ, zero, suc, ◌-◌, ◌≤◌, min, List, [], ◌∷◌, ◌++◌, length, take, refl, sym, ap, ◌∙◌, arith, take_all, zero-le}
use Rattle.std.specs.Prelude.{Option, None, Some, IfSome}
use Rattle.std.specs.Io.BufRead.{take_through}

take-nil : (n : ℕ) → take {A = ℕ} n [] ≡ []
take-nil n = take_all n [] zero-le

-- a part of a part
pub take-min : (ys : List ℕ) (n limit : ℕ) → take limit (take n ys) ≡ take (min n limit) ys
take-min [] n limit = ap (take limit) (take-nil n) ∙ take-nil limit ∙ sym (take-nil (min n limit))
take-min (y ∷ ys) zero limit =
    let none : 0 ≡ min 0 limit = omega arith in
    take-nil limit ∙ ap (λ k. take k (y ∷ ys)) none
take-min (y ∷ ys) (suc n) zero =
    let none : 0 ≡ min (suc n) 0 = omega arith in
    ap (λ k. take k (y ∷ ys)) none
take-min (y ∷ ys) (suc n) (suc limit) =
    let more : suc (min n limit) ≡ min (suc n) (suc limit) = omega arith in
    ap (λ l. y ∷ l) (take-min ys n limit) ∙ ap (λ k. take k (y ∷ ys)) more

-- as much of a piece as there is room for is the front of all
pub kept-piece : (xs ys : List ℕ) (n limit : ℕ) → length xs ≤ limit → xs ++ take (min n (limit - length xs)) ys ≡ take limit (xs ++ take n ys)
kept-piece [] ys n limit room =
    let all : limit - 0 ≡ limit = omega arith in
    ap (λ k. take (min n k) ys) all ∙ sym (take-min ys n limit)
kept-piece (x ∷ xs) ys n zero room = absurd (omega (arith, room))
kept-piece (x ∷ xs) ys n (suc limit) room =
    let left : suc limit - length (x ∷ xs) ≡ limit - length xs = omega arith in
    ap (λ l. x ∷ l) (ap (λ k. xs ++ take (min n k) ys) left ∙ kept-piece xs ys n limit (omega (arith, room)))

-- what was not kept before isn't kept later
pub kept-more : (xs ys : List ℕ) (limit : ℕ) → take limit (take limit xs ++ ys) ≡ take limit (xs ++ ys)
kept-more xs ys zero = refl
kept-more [] ys (suc limit) = refl
kept-more (x ∷ xs) ys (suc limit) = ap (λ l. x ∷ l) (kept-more xs ys limit)

-- what is kept of what was read through the line's end
pub kept-through : (known : Option (List ℕ)) (read piece kept : List ℕ) (limit : ℕ) → kept ≡ take limit (read ++ piece)
    → IfSome known (λ bytes. read ++ piece ≡ take_through 10 bytes) → IfSome known (λ bytes. kept ≡ take limit (take_through 10 bytes))
kept-through None read piece kept limit is whole = tt
kept-through (Some bytes) read piece kept limit is whole = is ∙ ap (take limit) whole
