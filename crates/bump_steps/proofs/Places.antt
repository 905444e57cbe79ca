-- Where words lie: no two chunks share one, and each of a chunk's is in the table.
use Rattle.std.proofs.Common.{◌≡◌, ℕ, zero, suc, ◌+◌, ◌-◌, ◌*◌, ◌/◌, ◌<◌, ◌≤◌, ◌≢◌, Bool, eqb, List, length, get_or, set, if◌then◌else◌, refl, sym, ap, ◌∙◌, arith, add-mul, one-mul, mul-le-mul_right, eq-eqb, ne_eqb, get_or-set_other, get_or-set_same}
use Rattle.std.proofs.lemmas.Nat.{same_from_place, div-mul-add}
use Rattle.std.proofs.Common.{div-mul-le_self}
use mathlib.Core.Logic.{dite}
use native.Mathlib.Decide.{ℕ_discrete, dec_le}
use Rattle.atomic_table.specs.Seated.{TableId}
use Rattle.bump_steps.specs.Places.{head_place, rows, HasChunk, words_from, row_at, words_at}

-- two places that are one are of one chunk, and one place in its row
pub place_apart : (s b c i j : ℕ) → i < s + 3 → j < s + 3 → head_place s b + i ≡ head_place s c + j → (b ≡ c) × (i ≡ j)
unfolding head_place
place_apart s b c i j p q e = same_from_place b i c j (s + 3) p q (omega (arith, e))

-- the next chunk's row is behind this one's
pub place_next : (s c : ℕ) → head_place s (c + 1) ≡ head_place s c + (s + 3)
unfolding head_place
place_next s c = omega (arith, add-mul c 1 (s + 3), one-mul (s + 3))

pub place_is : (s c : ℕ) → head_place s c ≡ c * (s + 3) + 14
unfolding head_place
place_is s c = refl

-- chunks beyond have later rows
pub place_mono : (s c n : ℕ) → c ≤ n → head_place s c ≤ head_place s n
unfolding head_place
place_mono s c n h = omega (arith, mul-le-mul_right (s + 3) h)

-- all words of a chunk lie before the row of the end
pub place_near : (s c n i : ℕ) → c < n → i < s + 3 → head_place s c + i < head_place s n
place_near s c n i h small = omega (arith, place_next s c, place_mono s (c + 1) n (omega (arith, h)), small)

-- the first row is behind the spare words
pub place_behind : (s c : ℕ) → 14 ≤ head_place s c
unfolding head_place
place_behind s c = omega arith

-- a table that has these rows and no more has so many
pub rows_are : (t : TableId) (n : ℕ) → t.words ≡ head_place t.slots n → rows t ≡ n
unfolding head_place rows
rows_are t n e = ap (λ (x : ℕ). (x - 14) / (t.slots + 3)) e
    ∙ ap (λ (x : ℕ). x / (t.slots + 3)) (the n (t.slots + 3)) ∙ div-mul-add n (t.slots + 3) 0 (omega arith)
  where
    the : (n w : ℕ) → n * w + 14 - 14 ≡ n * w + 0
    the n w = omega arith

-- each word of a chunk is in the table
pub row_near : (t : TableId) (c i : ℕ) → HasChunk t c → i < t.slots + 3 → head_place t.slots c + i < t.words
unfolding head_place rows
row_near t c i near small = omega (
  arith,
  small,
  add-mul c 1 (t.slots + 3),
  one-mul (t.slots + 3),
  mul-le-mul_right {m = c + 1} {n = (t.words - 14) / (t.slots + 3)} (t.slots + 3) (omega (arith, near)),
  div-mul-le_self (t.words - 14) (t.slots + 3),
)

-- ---- the labels and words of a chunk

-- one of them is written over
abbrev pub with_word : (ℕ → ℕ) → ℕ → ℕ → ℕ → ℕ
with_word x i y j = if eqb j i then y else x j

pub with_same : (x : ℕ → ℕ) (i : ℕ) → with_word x i (x i) ≡ x
with_same x i = λ k j. at j k
  where
    at : (j : ℕ) → with_word x i (x i) j ≡ x j
    at j = dite (ℕ_discrete j i)
        (λ e. ap (λ (b : Bool). if b then x i else x j) (eq-eqb j i e) ∙ ap x (sym e))
        (λ ne. ap (λ (b : Bool). if b then x i else x j) (ne_eqb j i ne))

pub with_here : (x : ℕ → ℕ) (i y : ℕ) → with_word x i y i ≡ y
with_here x i y = ap (λ (b : Bool). if b then y else x i) (eq-eqb i i refl)

pub with_there : (x : ℕ → ℕ) (i y j : ℕ) → j ≢ i → with_word x i y j ≡ x j
with_there x i y j ne = ap (λ (b : Bool). if b then y else x j) (ne_eqb j i ne)

-- a word of a part of the words
from_within : (ws : List ℕ) (p n i : ℕ) → i < n → get_or (words_from ws p n) i 0 ≡ get_or ws (p + i) 0
from_within ws p zero i low = absurd (omega (arith, low))
from_within ws p (suc n) zero low = ap (λ (k : ℕ). get_or ws k 0) (omega arith)
from_within ws p (suc n) (suc i) low =
    from_within ws (p + 1) n i (omega (arith, low)) ∙ ap (λ (k : ℕ). get_or ws k 0) (omega arith)

-- beyond it there is none
from_past : (ws : List ℕ) (p n i : ℕ) → n ≤ i → get_or (words_from ws p n) i 0 ≡ 0
from_past ws p zero i gone = refl
from_past ws p (suc n) zero gone = absurd (omega (arith, gone))
from_past ws p (suc n) (suc i) gone = from_past ws (p + 1) n i (omega (arith, gone))

from_long : (ws : List ℕ) (p n : ℕ) → length (words_from ws p n) ≡ n
from_long ws p zero = refl
from_long ws p (suc n) = ap suc (from_long ws (p + 1) n)

-- a row has as many words as it has to have
pub row_long : (s : ℕ) (ws : List ℕ) (c : ℕ) → length (row_at s ws c) ≡ s + 1
row_long s ws c = from_long ws (head_place s c + 2) (s + 1)

-- what a word is
pub word_found : (s : ℕ) (ws : List ℕ) (c i : ℕ) → i ≤ s → words_at s ws c i ≡ get_or ws (head_place s c + (2 + i)) 0
word_found s ws c i low = from_within ws (head_place s c + 2) (s + 1) i (omega (arith, low))
    ∙ ap (λ (k : ℕ). get_or ws k 0) (omega arith)

pub word_past : (s : ℕ) (ws : List ℕ) (c i : ℕ) → s < i → words_at s ws c i ≡ 0
word_past s ws c i gone = from_past ws (head_place s c + 2) (s + 1) i (omega (arith, gone))

-- a word elsewhere is written
pub words_beside : (s : ℕ) (ws : List ℕ) (word p c : ℕ) → ((i : ℕ) → i ≤ s → head_place s c + (2 + i) ≢ word)
    → words_at s (set ws word p) c ≡ words_at s ws c
words_beside s ws word p c apart = λ k i. at i k
  where
    at : (i : ℕ) → words_at s (set ws word p) c i ≡ words_at s ws c i
    at i = dite (dec_le i s)
        (λ le. word_found s (set ws word p) c i le
        ∙ get_or-set_other ws word (head_place s c + (2 + i)) p 0 (apart i le)
        ∙ sym (word_found s ws c i le))
        (λ gt. word_past s (set ws word p) c i (omega (arith, gt)) ∙ sym (word_past s ws c i (omega (arith, gt))))

-- this one is written
module _ (s : ℕ) (ws : List ℕ) (p c i : ℕ) (small : i ≤ s) (near : head_place s c + (2 + i) < length ws) where
  at_other : (j : ℕ) → j ≢ i → words_at s (set ws (head_place s c + (2 + i)) p) c j ≡ words_at s ws c j
  at_other j ne = dite (dec_le j s)
      (λ le. word_found s (set ws (head_place s c + (2 + i)) p) c j le
      ∙ get_or-set_other ws (head_place s c + (2 + i)) (head_place s c + (2 + j)) p 0
      (λ e. ne (omega (arith, e)))
      ∙ sym (word_found s ws c j le))
      (λ gt. word_past s (set ws (head_place s c + (2 + i)) p) c j (omega (arith, gt))
      ∙ sym (word_past s ws c j (omega (arith, gt))))

  at_each : (j : ℕ) → words_at s (set ws (head_place s c + (2 + i)) p) c j ≡ with_word (words_at s ws c) i p j
  at_each j = dite (ℕ_discrete j i)
      (λ e. ap (words_at s (set ws (head_place s c + (2 + i)) p) c) e
      ∙ word_found s (set ws (head_place s c + (2 + i)) p) c i small
      ∙ get_or-set_same ws (head_place s c + (2 + i)) p 0 near
      ∙ sym (ap (λ (b : Bool). if b then p else words_at s ws c j) (eq-eqb j i e)))
      (λ ne. at_other j ne ∙ sym (with_there (words_at s ws c) i p j ne))

  pub words_written : words_at s (set ws (head_place s c + (2 + i)) p) c ≡ with_word (words_at s ws c) i p
  words_written = λ k j. at_each j k

-- the sum by which the code finds a row
pub row_sum : (t : TableId) (c row : ℕ) → row ≡ t.slots + 3 → c * row + 14 ≡ head_place t.slots c
unfolding head_place
row_sum t c row is = ap (λ (r : ℕ). c * r + 14) is
