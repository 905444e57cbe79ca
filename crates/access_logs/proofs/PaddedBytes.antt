-- Lemmas on known bytes behind which come line feeds.
use Rattle.std.proofs.Common.{◌≡◌, ℕ, zero, suc, ◌+◌, ◌-◌, ◌<◌, ◌≤◌, false, List, [], ◌++◌, ◌∷◌, length, take, refl, sym, ap, ◌∙◌, arith, append-nil, true≢false}
use Rattle.std.specs.Prelude.{Option, None, Some, replicate, ◌==◌}
use Rattle.std.specs.Io.KnownBytes.{append_known, Consumes, IsAtEnd}

-- so many of a byte, in two parts
pub replicate-parts : (n m byte : ℕ) → replicate (n + m) byte ≡ replicate n byte ++ replicate m byte
replicate-parts zero m byte = let same : zero + m ≡ m = omega arith in ap (λ k. replicate k byte) same
replicate-parts (suc n) m byte =
    let more : suc n + m ≡ suc (n + m) = omega arith in
    ap (λ k. replicate k byte) more ∙ ap (λ l. byte ∷ l) (replicate-parts n m byte)

-- behind the bytes come the others
pub padding-consumed : (old new : Option (List ℕ)) (left count byte : ℕ) (bytes : List ℕ) → Consumes old new [] → IsAtEnd new → bytes ≡ replicate count byte → count ≤ left
    → Consumes (append_known old (replicate left byte)) (append_known new (replicate (left - count) byte)) bytes
padding-consumed None new left count byte bytes consumed end is few = tt
padding-consumed (Some x) None left count byte bytes consumed end is few = absurd consumed
padding-consumed (Some x) (Some y) left count byte bytes consumed end is few =
    let parts : left ≡ count + (left - count) = omega (arith, few) in
    ap (λ l. l ++ replicate left byte) (consumed ∙ end) ∙ ap (λ n. replicate n byte) parts ∙ replicate-parts count (left - count) byte
    ∙ ap (λ l. l ++ replicate (left - count) byte) (sym is) ∙ ap (λ l. bytes ++ (l ++ replicate (left - count) byte)) (sym end)

-- where there are none left, all is at its end
pub padding-end : (new : Option (List ℕ)) (left byte : ℕ) → IsAtEnd new → left ≡ 0 → IsAtEnd (append_known new (replicate left byte))
padding-end None left byte end none = tt
padding-end (Some y) left byte end none = ap (λ n. y ++ replicate n byte) none ∙ append-nil y ∙ end

-- the front of two lists is the first
pub take-front : (xs ys : List ℕ) (n : ℕ) → length xs ≡ n → take n (xs ++ ys) ≡ xs
take-front xs ys n long = ap (λ k. take k (xs ++ ys)) (sym long) ∙ by xs
  where
    by : (zs : List ℕ) → take (length zs) (zs ++ ys) ≡ zs
    by [] = refl
    by (z ∷ zs) = ap (λ l. z ∷ l) (by zs)

-- a length that isn't 0
pub some-length : (n : ℕ) → (n == 0) ≡ false → 0 < n
some-length zero is = absurd (true≢false is)
some-length (suc n) is = omega arith
