-- Plain lists of chunks: how often a chunk stands in a list, and what the first, the last and an ascending row have.
use Rattle.std.proofs.Common.{◌≡◌, ℕ, zero, suc, ◌+◌, ◌-◌, ◌<◌, ◌≤◌, ◌≢◌, ◌&&◌, Bool, true, false, eqb, leb, ltb, List, [], ◌∷◌, length, slice_index_or, refl, sym, ap, ap₂, ◌∙◌, arith, eq-eqb, ne_eqb, lt-ltb, le-ltb, Some}
use Rattle.std.specs.List.{range_with_len}
use Rattle.std.proofs.lemmas.Bool.{le-leb, lt-leb}
use mathlib.Core.Logic.{dite}
use native.Mathlib.Decide.{ℕ_discrete, dec_le}
use Rattle.bump_links.specs.Lists.{times, first_of, last_of, next_of, begins_with, previous_of}
use Rattle.bump_rules.specs.Lawful.{bit}

-- a front chunk counts once where it is the chunk
pub times_same : (c x : ℕ) (xs : List ℕ) → x ≡ c → times c (x ∷ xs) ≡ suc (times c xs)
times_same c x xs e = rw (eq-eqb x c e) refl

-- and not where it is another
pub times_other : (c x : ℕ) (xs : List ℕ) → x ≢ c → times c (x ∷ xs) ≡ times c xs
times_other c x xs ne = rw (ne_eqb x c ne) refl

-- with one more in front a list has each chunk as often at least
pub times_rest : (c x : ℕ) (xs : List ℕ) → times c xs ≤ times c (x ∷ xs)
times_rest c x xs = dite (ℕ_discrete x c) (λ e. omega (arith, times_same c x xs e)) (λ ne. omega (
  arith,
  times_other c x xs ne,
))

-- a chunk that is read in a list is in it
pub times_at : (c : ℕ) (xs : List ℕ) (i d : ℕ) → i < length xs → slice_index_or xs i d ≡ c → 0 < times c xs
times_at c [] i d within is = absurd (omega arith)
times_at c (x ∷ xs) zero d within is = omega (arith, times_same c x xs is)
times_at c (x ∷ xs) (suc i) d within is = omega (arith, times_rest c x xs, times_at c xs i d (omega arith) is)

-- the first of a list is in it
pub first_there : (c : ℕ) (xs : List ℕ) → first_of xs ≡ Some c → 0 < times c xs
first_there c [] is = absurd (cc)
first_there c (x ∷ xs) is = let e : x ≡ c = cc in omega (arith, times_same c x xs e)

-- the last of a list is in it
pub last_there : (c : ℕ) (xs : List ℕ) → last_of xs ≡ Some c → 0 < times c xs
last_there c [] is = absurd (cc)
last_there c (x ∷ []) is = let e : x ≡ c = cc in omega (arith, times_same c x [] e)
last_there c (x ∷ y ∷ ys) is = omega (arith, times_rest c x (y ∷ ys), last_there c (y ∷ ys) is)

-- so is one that follows another
pub next_there : (c d : ℕ) (xs : List ℕ) → next_of c xs ≡ Some d → 0 < times d xs
next_there c d [] is = absurd (cc)
next_there c d (x ∷ xs) is = by (eqb x c) refl (λ more. next_there c d xs more)
  where
    by : (b : Bool) → eqb x c ≡ b → (next_of c xs ≡ Some d → 0 < times d xs) → 0 < times d (x ∷ xs)
    by true same further = omega (arith, times_rest d x xs, first_there d xs (rw same at is))
    by false other further = omega (arith, times_rest d x xs, further (rw other at is))

-- and one that another follows
pub previous_there : (c d : ℕ) (xs : List ℕ) → previous_of c xs ≡ Some d → 0 < times d xs
previous_there c d [] is = absurd (cc)
previous_there c d (x ∷ xs) is = by (begins_with c xs) refl (λ more. previous_there c d xs more)
  where
    by : (b : Bool) → begins_with c xs ≡ b → (previous_of c xs ≡ Some d → 0 < times d xs) → 0 < times d (x ∷ xs)
    by true next further =
        let some : Some x ≡ Some d = rw next at is in
        let e : x ≡ d = cc in
        omega (arith, times_same d x xs e)
    by false other further = omega (arith, times_rest d x xs, further (rw other at is))

-- an ascending row has each of its numbers once
pub times_ascending : (c first n : ℕ) → times c (range_with_len first n) ≡ bit (leb first c && ltb c (first + n))
times_ascending c first zero = dite (dec_le first c) (λ le. ap₂ (λ a b. bit (a && b)) (sym (le-leb first c le))
    (sym (le-ltb c (first + 0) (omega arith)))) (λ gt. ap (λ a. bit (a && ltb c (first + 0)))
    (sym (lt-leb first c (omega arith))))
times_ascending c first (suc n) = dite (ℕ_discrete first c)
    (λ e. omega (
      arith,
      times_same c first (range_with_len (first + 1) n) e,
      times_ascending c (first + 1) n,
      ap₂ (λ a b. bit (a && b)) (le-leb first c (omega arith)) (lt-ltb c (first + suc n) (omega arith)),
      ap (λ a. bit (a && ltb c (first + 1 + n))) (lt-leb (first + 1) c (omega arith)),
    ))
    (λ ne. dite (dec_le first c)
    (λ le. omega (
      arith,
      times_other c first (range_with_len (first + 1) n) ne,
      times_ascending c (first + 1) n,
      ap (λ a. bit (a && ltb c (first + suc n))) (le-leb first c le),
      ap (λ a. bit (a && ltb c (first + 1 + n)))
          (le-leb (first + 1) c (omega arith)),
      ap (λ (k : ℕ). bit (ltb c k)) (shift first n),
    ))
    (λ gt. omega (
      arith,
      times_other c first (range_with_len (first + 1) n) ne,
      times_ascending c (first + 1) n,
      ap (λ a. bit (a && ltb c (first + suc n))) (lt-leb first c (omega arith)),
      ap (λ a. bit (a && ltb c (first + 1 + n))) (lt-leb (first + 1) c (omega arith)),
    )))
  where
    shift : (a b : ℕ) → a + suc b ≡ a + 1 + b
    shift a b = omega arith

-- whether a chunk is in a row, by the number of chunks or by the end
pub same_row : (c first end : ℕ) → bit (leb first c && ltb c (first + (end - first))) ≡ bit (leb first c && ltb c end)
same_row c first end = dite (dec_le first end)
    (λ le. ap (λ (e : ℕ). bit (leb first c && ltb c e)) (omega arith))
    (λ gt. dite (dec_le first c)
    (λ le. ap₂ (λ a b. bit (a && b)) refl (le-ltb c (first + (end - first)) (omega arith)
    ∙ sym (le-ltb c end (omega arith))))
    (λ less. ap (λ a. bit (a && ltb c (first + (end - first)))) (lt-leb first c (omega arith))
    ∙ ap (λ a. bit (a && ltb c end)) (sym (lt-leb first c (omega arith)))))
