-- Numbers in turn, around and around.
use Rattle.std.proofs.Common.{◌≡◌, ℕ, ◌+◌, ◌-◌, ◌<◌, ◌≤◌, ◌⊎◌, inl, inr, nat_lt, Bool, true, false, if◌then◌else◌, refl, sym, ap, ◌∙◌, arith}
use Rattle.std.proofs.lemmas.Bool.{lt-ltb, le-ltb, ltb-true, ltb-false}
use Rattle.cache_part.specs.Expiring.{number_behind, IsNumberInTurn}

-- what comes behind before the last one is a sum
behind_low : (from looks count : ℕ) → from + looks < count → number_behind from looks count ≡ from + looks
behind_low from looks count low = ap (λ b. if b then from + looks else from + looks - count)
    (lt-ltb (from + looks) count low)

-- and behind that it begins anew
behind_high : (from looks count : ℕ) → count ≤ from + looks → number_behind from looks count ≡ from + looks - count
behind_high from looks count high = ap (λ b. if b then from + looks else from + looks - count)
    (le-ltb (from + looks) count high)

-- a sum is below the count or not
below_or_not : (from looks count : ℕ) → (from + looks < count) ⊎ (count ≤ from + looks)
below_or_not from looks count = by (nat_lt (from + looks) count) refl
  where
    by : (b : Bool) → nat_lt (from + looks) count ≡ b → (from + looks < count) ⊎ (count ≤ from + looks)
    by true e = inl (ltb-true (from + looks) count e)
    by false e = inr (ltb-false (from + looks) count e)

-- none was looked at yet
pub behind_none : (from count : ℕ) → from ≤ count - 1 → from ≡ number_behind from 0 count
behind_none from count within = by (below_or_not from 0 count)
  where
    by : (from + 0 < count) ⊎ (count ≤ from + 0) → from ≡ number_behind from 0 count
    by (inl low) = let same : from ≡ from + 0 = omega arith in same ∙ sym (behind_low from 0 count low)
    by (inr high) = let same : from ≡ from + 0 - count = omega (arith, within, high) in
        same ∙ sym (behind_high from 0 count high)

-- what comes behind is one of as many as there are
pub behind_within : (from looks count : ℕ) → from ≤ count - 1 → looks ≤ count → number_behind from looks count ≤ count - 1
behind_within from looks count within few = by (below_or_not from looks count)
  where
    by : (from + looks < count) ⊎ (count ≤ from + looks) → number_behind from looks count ≤ count - 1
    by (inl low) = let is = behind_low from looks count low in omega (arith, is, low)
    by (inr high) = let is = behind_high from looks count high in omega (arith, is, high, within, few)

-- the next one in turn
pub behind_next : (from looks count : ℕ) → from < count → looks < count
    → number_behind (number_behind from looks count) 1 count ≡ number_behind from (looks + 1) count
behind_next from looks count within few =
    by (below_or_not from looks count) (below_or_not from (looks + 1) count)
  where
    at : ℕ
    at = number_behind from looks count

    by : (from + looks < count) ⊎ (count ≤ from + looks)
        → (from + (looks + 1) < count) ⊎ (count ≤ from + (looks + 1))
        → number_behind at 1 count ≡ number_behind from (looks + 1) count
    by (inl low) (inl more) =
        let is = behind_low from looks count low in
        let next = behind_low at 1 count (omega (arith, is, more)) in
        let last = behind_low from (looks + 1) count more in omega (arith, is, next, last)
    by (inl low) (inr more) =
        let is = behind_low from looks count low in
        let next = behind_high at 1 count (omega (arith, is, more)) in
        let last = behind_high from (looks + 1) count more in omega (arith, is, next, last)
    by (inr high) (inl more) = absurd (let no : ⊥ = omega (arith, high, more) in no)
    by (inr high) (inr more) =
        let is = behind_high from looks count high in
        let next = behind_low at 1 count (omega (arith, is, high, within, few)) in
        let last = behind_high from (looks + 1) count more in omega (arith, is, next, last, high)

-- one of one more chunk in turn is one of those before, or the next one
pub in_turn_more : (from looks count c : ℕ) → IsNumberInTurn from (looks + 1) count c
    → IsNumberInTurn from looks count c ⊎ (number_behind from looks count ≡ c)
in_turn_more from looks count c (below, inl both) = by (nat_lt c (from + looks)) refl
  where
    by : (b : Bool) → nat_lt c (from + looks) ≡ b
        → IsNumberInTurn from looks count c ⊎ (number_behind from looks count ≡ c)
    by true e = inl (below, inl (both.0, ltb-true c (from + looks) e))
    by false e =
        let above = ltb-false c (from + looks) e in
        let is = behind_low from looks count (omega (arith, above, both.1, below)) in
        inr (omega (arith, is, above, both.1))
in_turn_more from looks count c (below, inr around) = by (nat_lt (c + count) (from + looks)) refl
  where
    by : (b : Bool) → nat_lt (c + count) (from + looks) ≡ b
        → IsNumberInTurn from looks count c ⊎ (number_behind from looks count ≡ c)
    by true e = inl (below, inr (ltb-true (c + count) (from + looks) e))
    by false e =
        let above = ltb-false (c + count) (from + looks) e in
        let is = behind_high from looks count (omega (arith, above, around)) in
        inr (omega (arith, is, above, around))

-- of none in turn nothing is one
pub in_turn_none : (from count c : ℕ) → from ≤ count - 1 → IsNumberInTurn from 0 count c → ⊥
in_turn_none from count c within (below, inl both) = omega (arith, both.0, both.1)
in_turn_none from count c within (below, inr around) = omega (arith, below, within, around)
