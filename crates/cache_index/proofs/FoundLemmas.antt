-- The first of the lanes with a tag, of those from one on.
use Rattle.std.proofs.Common.{◌≡◌, ◌≢◌, ℕ, ◌+◌, ◌-◌, ◌*◌, ◌/◌, ◌%◌, ◌^◌, ◌<◌, ◌≤◌}
use Rattle.std.proofs.Common.{cond, eqb, w64, sym, ap, ◌∙◌, arith, ⊎_elim}
use Rattle.std.specs.Int.{bit_at, trailing_zeros}
use Rattle.std.proofs.Math.Nat.{mod-lt, mod-eq_of_lt}
use Rattle.std.proofs.lemmas.Bool.{cases_lt, cases_eq, cond-true, cond-false, eq-eqb, ne_eqb}
use Rattle.std.proofs.lemmas.Nat.{pow_pos, shr_split}
use Rattle.std.proofs.lemmas.Nat.Bits.{bit_at-trailing_zeros, bit_at-zero, bit_at_cat_low, bit_at_cat_high}
use Rattle.std.proofs.lemmas.Nat.Bits.{same_from_bits_below}
use Rattle.cache_index.specs.Tags.{tag_in}
use Rattle.cache_index.proofs.LaneLemmas.{shr_bit, high_bit}

-- the lanes from one on
abbrev pub from_on : ℕ → ℕ → ℕ
from_on found from = found / 2 ^ (8 * from) * 2 ^ (8 * from)

pub not_wrapped : (found from : ℕ) → found < 2 ^ 64 → from_on found from % 2 ^ 64 ≡ from_on found from
not_wrapped found from fits = mod-eq_of_lt (omega (arith, shr_split found (8 * from)))

pub fewer_bits : (found from : ℕ) → from_on found from ≤ found
fewer_bits found from = omega (arith, shr_split found (8 * from))

-- a bit of a lane is one of the word
lane_has : (n lane j : ℕ) → j < 8 → bit_at (tag_in n lane) j ≡ bit_at n (8 * lane + j)
lane_has n lane j low =
    let m = n / 2 ^ (8 * lane) in
    sym (bit_at_cat_low (m / 2 ^ 8) 8 (m % 2 ^ 8) j low)
    ∙ (ap (λ (x : ℕ). bit_at x j) (shr_split m 8) ∙ shr_bit n (8 * lane) j)

-- a lane is known by its bits
lane_by_bits : (n m lane : ℕ) → ((bit : ℕ) → 8 * lane ≤ bit → bit < 8 * lane + 8 → bit_at n bit ≡ bit_at m bit)
    → tag_in n lane ≡ tag_in m lane
lane_by_bits n m lane same =
    same_from_bits_below 8 (tag_in n lane) (tag_in m lane) (mod-lt (n / 2 ^ (8 * lane)) (omega arith)) (mod-lt (m / 2
    ^ (8 * lane)) (omega arith))
    (λ j low. lane_has n lane j low ∙ (same (8 * lane + j) (omega arith) (omega arith) ∙ sym (lane_has m lane j low)))

no_tag : (lane : ℕ) → tag_in 0 lane ≡ 0
no_tag lane = same_from_bits_below 8 (tag_in 0 lane) 0 (mod-lt (0 / 2 ^ (8 * lane)) (omega arith)) (omega arith)
    (λ j low. lane_has 0 lane j low ∙ (bit_at-zero (8 * lane + j) ∙ sym (bit_at-zero j)))

-- a lane none of whose bits is 1
lane_none : (n lane : ℕ) → ((bit : ℕ) → 8 * lane ≤ bit → bit < 8 * lane + 8 → bit_at n bit ≡ 0) → tag_in n lane ≡ 0
lane_none n lane none =
    lane_by_bits n 0 lane (λ bit low high. none bit low high ∙ sym (bit_at-zero bit)) ∙ no_tag lane

-- the lowest of the bits that are 1 is in a lane before which there is none
pub lowest_here : (found : ℕ) → 0 < found → found < 2 ^ 48 → 0 < tag_in found (trailing_zeros w64 found / 8)
lowest_here found some few =
    let at = trailing_zeros w64 found in
    let lowest = bit_at-trailing_zeros w64 found some (omega arith) in
    let j = at % 8 in
    let bit : bit_at (tag_in found (at / 8)) j ≡ 1 =
    lane_has found (at / 8) j (omega arith)
    ∙ (ap (λ (i : ℕ). bit_at found i) (let e : 8 * (at / 8) + j ≡ at = omega arith in e) ∙ lowest.1) in
    ⊎_elim
    (λ none. let e : tag_in found (at / 8) ≡ 0 = omega (arith, none) in
    let zero_bit : bit_at (tag_in found (at / 8)) j ≡ 0 = ap (λ (x : ℕ). bit_at x j) e ∙ bit_at-zero j in
    absurd (omega (arith, bit, zero_bit)))
    (λ h. omega (arith, h))
    (cases_lt (tag_in found (at / 8)) 1)

pub none_before : (found lane : ℕ) → 0 < found → found < 2 ^ 48 → lane < trailing_zeros w64 found / 8
    → tag_in found lane ≡ 0
none_before found lane some few below =
    let lowest = bit_at-trailing_zeros w64 found some (omega arith) in
    lane_none found lane (λ bit low high. lowest.2 bit (omega (arith, below, high)))

-- of the lanes from one on, those are as they were, and those before it are 0
pub kept : (found from lane : ℕ) → from ≤ lane → tag_in (from_on found from) lane ≡ tag_in found lane
kept found from lane behind = lane_by_bits (from_on found from) found lane (λ bit low high.
    let k = 8 * from in
    ap (λ (x : ℕ). bit_at x bit) (let e : from_on found from ≡ found / 2 ^ k * 2 ^ k + 0 = omega arith in e)
    ∙ (bit_at_cat_high (found / 2 ^ k) k 0 bit (pow_pos k) (omega (arith, low, behind))
    ∙ (shr_bit found k (bit - k) ∙ ap (λ (i : ℕ). bit_at found i) (let e : k + (bit - k) ≡ bit = omega (
      arith,
      low,
      behind,
    ) in e))))

pub gone : (found from lane : ℕ) → lane < from → tag_in (from_on found from) lane ≡ 0
gone found from lane before = lane_none (from_on found from) lane (λ bit low high.
    let k = 8 * from in
    ap (λ (x : ℕ). bit_at x bit) (let e : from_on found from ≡ found / 2 ^ k * 2 ^ k + 0 = omega arith in e)
    ∙ (bit_at_cat_low (found / 2 ^ k) k 0 bit (omega (arith, high, before)) ∙ bit_at-zero bit))

-- a lane was found exactly where its tag is this
abbrev pub IsFoundBy : ℕ → ℕ → ℕ → ℕ → Type 0
IsFoundBy found tags tag lane = bit_at found (8 * lane + 7) ≡ cond (eqb (tag_in tags lane) tag) 1 0

has_tag : (found tags tag lane : ℕ) → IsFoundBy found tags tag lane → tag_in found lane % 128 ≡ 0
    → 0 < tag_in found lane → tag_in tags lane ≡ tag
has_tag found tags tag lane is alone some = ⊎_elim (λ same. same)
    (λ apart. let none : bit_at found (8 * lane + 7) ≡ 0 =
    is ∙ cond-false (eqb (tag_in tags lane) tag) 1 0 (ne_eqb (tag_in tags lane) tag apart) in
    absurd (omega (arith, none, high_bit found lane, alone, some)))
    (cases_eq (tag_in tags lane) tag)

has_another : (found tags tag lane : ℕ) → IsFoundBy found tags tag lane → tag_in found lane ≡ 0
    → tag_in tags lane ≢ tag
has_another found tags tag lane is none same =
    let one : bit_at found (8 * lane + 7) ≡ 1 =
    is ∙ cond-true (eqb (tag_in tags lane) tag) 1 0 (eq-eqb (tag_in tags lane) tag same) in
    absurd (omega (arith, one, high_bit found lane, none))

-- where no lane from one on was found, none of them has the tag
pub none_found : (found tags tag from lane : ℕ) → ((l : ℕ) → l < 6 → IsFoundBy found tags tag l)
    → from_on found from ≡ 0 → from ≤ lane → lane < 6 → tag_in tags lane ≢ tag
none_found found tags tag from lane is none behind few =
    has_another found tags tag lane (is lane few)
    (sym (kept found from lane behind) ∙ (ap (λ (n : ℕ). tag_in n lane) none ∙ no_tag lane))

-- the first one that was found is one of them
pub first_behind : (found from lane : ℕ) → 0 < tag_in (from_on found from) lane → from ≤ lane
first_behind found from lane some = ⊎_elim
    (λ before. absurd (omega (arith, some, gone found from lane before)))
    (λ behind. behind)
    (cases_lt lane from)

-- it has the tag
pub first_has_tag : (found tags tag from lane : ℕ) → IsFoundBy found tags tag lane → tag_in found lane % 128 ≡ 0
    → 0 < tag_in (from_on found from) lane → tag_in tags lane ≡ tag
first_has_tag found tags tag from lane is alone some =
    has_tag found tags tag lane is alone
    (omega (arith, some, kept found from lane (first_behind found from lane some)))

-- and none between has
pub others_between : (found tags tag from lane : ℕ) → IsFoundBy found tags tag lane → from ≤ lane
    → tag_in (from_on found from) lane ≡ 0 → tag_in tags lane ≢ tag
others_between found tags tag from lane is behind none =
    has_another found tags tag lane is (sym (kept found from lane behind) ∙ none)
