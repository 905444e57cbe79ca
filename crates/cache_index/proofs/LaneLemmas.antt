-- The lanes with a tag, found in all six at once: the highest bit of each is set exactly where its tag is this one.
use Rattle.std.proofs.Common.{◌≡◌, ◌≢◌, ℕ, zero, suc, ◌+◌, ◌-◌, ◌*◌, ◌/◌, ◌%◌, ◌^◌, ◌<◌, ◌≤◌, min, max}
use Rattle.std.proofs.Common.{cond, eqb, bit_and, bit_or, bit_xor, w64, refl, sym, ap, ◌∙◌, subst, arith}
use Rattle.std.proofs.Common.{⊎_elim}
use Rattle.std.specs.Int.{bit_at, bit_not}
use Rattle.std.specs.Int.Bits.{xor_self}
use Rattle.std.proofs.Math.Nat.{div-div-eq-div-mul, mod-lt, zero-div}
use Rattle.std.proofs.lemmas.Nat.{pow-add, and_mod, xor_mod, and_mask, and_le_r, or_lt, xor_lt, div-mul-add}
use Rattle.std.proofs.lemmas.Nat.{div-add-mod'}
use Rattle.std.proofs.lemmas.Nat.Bits.{same_from_bits, bit_at_and, bit_at_or, bit_at_xor, bit_at_not, bit_at-lt}
use Rattle.std.proofs.lemmas.Bool.{cases_eq, cond-true, cond-false, eq-eqb, ne_eqb}
use Rattle.cache_index.specs.Tags.{tag_in}

-- 127 in each lane, and 128, and 1
abbrev pub low_bits : ℕ
low_bits = 0x7F7F7F7F7F7F

abbrev pub high_bits : ℕ
high_bits = 0x808080808080

abbrev pub ones : ℕ
ones = 0x010101010101

-- what holds of each lane holds of all
below_six : (P : ℕ → Type 0) → P 0 → P 1 → P 2 → P 3 → P 4 → P 5 → (lane : ℕ) → lane < 6 → P lane
below_six P a b c d e f zero few = a
below_six P a b c d e f (suc zero) few = b
below_six P a b c d e f (suc (suc zero)) few = c
below_six P a b c d e f (suc (suc (suc zero))) few = d
below_six P a b c d e f (suc (suc (suc (suc zero)))) few = e
below_six P a b c d e f (suc (suc (suc (suc (suc zero))))) few = f
below_six P a b c d e f (suc (suc (suc (suc (suc (suc lane)))))) few = absurd (omega arith)

-- a bit of what is left of a shift
pub shr_bit : (n k i : ℕ) → bit_at (n / 2 ^ k) i ≡ bit_at n (k + i)
shr_bit n k i =
    ap (λ (m : ℕ). m % 2) (div-div-eq-div-mul n (2 ^ k) (2 ^ i) ∙ ap (λ (p : ℕ). n / p) (sym (pow-add 2 k i)))

and_shr : (a b k : ℕ) → bit_and a b / 2 ^ k ≡ bit_and (a / 2 ^ k) (b / 2 ^ k)
and_shr a b k = same_from_bits _ _ (λ i.
    shr_bit (bit_and a b) k i ∙ (bit_at_and a b (k + i)
    ∙ (ap (λ (x : ℕ). min x (bit_at b (k + i))) (sym (shr_bit a k i))
    ∙ (ap (λ (x : ℕ). min (bit_at (a / 2 ^ k) i) x) (sym (shr_bit b k i))
    ∙ sym (bit_at_and (a / 2 ^ k) (b / 2 ^ k) i)))))

xor_shr : (a b k : ℕ) → bit_xor a b / 2 ^ k ≡ bit_xor (a / 2 ^ k) (b / 2 ^ k)
xor_shr a b k = same_from_bits _ _ (λ i.
    shr_bit (bit_xor a b) k i ∙ (bit_at_xor a b (k + i)
    ∙ (ap (λ (x : ℕ). (x + bit_at b (k + i)) % 2) (sym (shr_bit a k i))
    ∙ (ap (λ (x : ℕ). (bit_at (a / 2 ^ k) i + x) % 2) (sym (shr_bit b k i))
    ∙ sym (bit_at_xor (a / 2 ^ k) (b / 2 ^ k) i)))))

-- two numbers with no bit apart are one
xor_none : (a b : ℕ) → bit_xor a b ≡ 0 → a ≡ b
xor_none a b none = same_from_bits a b (λ i.
    let e = sym (bit_at_xor a b i) ∙ ap (λ (n : ℕ). bit_at n i) none in
    let zero_bit : bit_at 0 i ≡ 0 = ap (λ (n : ℕ). n % 2) (zero-div (2 ^ i)) in
    same_bit (bit_at a i) (bit_at b i) (bit_at-lt a i) (bit_at-lt b i) (e ∙ zero_bit))
  where
    same_bit : (x y : ℕ) → x < 2 → y < 2 → (x + y) % 2 ≡ 0 → x ≡ y
    same_bit x y hx hy h = omega arith

-- a tag in each lane
ones_lane : (tag lane : ℕ) → tag < 256 → lane < 6 → tag * ones / 2 ^ (8 * lane) % 256 ≡ tag
ones_lane tag lane few below =
    below_six (λ l. tag * ones / 2 ^ (8 * l) % 256 ≡ tag)
    (omega arith) (omega arith) (omega arith) (omega arith) (omega arith) (omega arith) lane below

-- how a lane differs from a tag
apart_lane : (tags tag lane : ℕ) → tag < 256 → lane < 6
    → bit_xor tags (tag * ones) / 2 ^ (8 * lane) % 256 ≡ bit_xor (tag_in tags lane) tag
apart_lane tags tag lane few below =
    ap (λ (n : ℕ). n % 2 ^ 8) (xor_shr tags (tag * ones) (8 * lane))
    ∙ (xor_mod (tags / 2 ^ (8 * lane)) (tag * ones / 2 ^ (8 * lane)) 8
    ∙ ap (λ (n : ℕ). bit_xor (tag_in tags lane) n) (ones_lane tag lane few below))

low_lane : (lane : ℕ) → lane < 6 → low_bits / 2 ^ (8 * lane) % 256 ≡ 127
low_lane lane below = below_six (λ l. low_bits / 2 ^ (8 * l) % 256 ≡ 127) refl refl refl refl refl refl lane below

low_rest : (lane : ℕ) → lane < 6 → 2 * (low_bits % 2 ^ (8 * lane)) < 2 ^ (8 * lane)
low_rest lane below =
    below_six (λ l. 2 * (low_bits % 2 ^ (8 * l)) < 2 ^ (8 * l))
    (omega arith) (omega arith) (omega arith) (omega arith) (omega arith) (omega arith) lane below

high_lane : (lane : ℕ) → lane < 6 → bit_at high_bits (8 * lane + 7) ≡ 1
high_lane lane below = below_six (λ l. bit_at high_bits (8 * l + 7) ≡ 1) refl refl refl refl refl refl lane below

-- the lower bits of a lane
masked_lane : (x lane : ℕ) → lane < 6 → bit_and x low_bits / 2 ^ (8 * lane) % 256 ≡ x / 2 ^ (8 * lane) % 256 % 128
masked_lane x lane below =
    ap (λ (n : ℕ). n % 2 ^ 8) (and_shr x low_bits (8 * lane))
    ∙ (and_mod (x / 2 ^ (8 * lane)) (low_bits / 2 ^ (8 * lane)) 8
    ∙ (ap (λ (n : ℕ). bit_and (x / 2 ^ (8 * lane) % 256) n) (low_lane lane below)
    ∙ and_mask (x / 2 ^ (8 * lane) % 256) 7))

masked_rest : (x lane : ℕ) → bit_and x low_bits % 2 ^ (8 * lane) ≤ low_bits % 2 ^ (8 * lane)
masked_rest x lane =
    let P : ℕ → Type 0 = λ n. n ≤ low_bits % 2 ^ (8 * lane) in
    subst P (sym (and_mod x low_bits (8 * lane))) (and_le_r (x % 2 ^ (8 * lane)) (low_bits % 2 ^ (8 * lane)))

-- two numbers whose lower parts don't carry add up above them
no_carry : (a b p : ℕ) → a % p + b % p < p → (a + b) / p ≡ a / p + b / p
no_carry a b p fits =
    (let e : a + b ≡ (a / p + b / p) * p + (a % p + b % p) = omega (arith, div-add-mod' a p, div-add-mod' b p) in
    ap (λ (n : ℕ). n / p) e)
    ∙ div-mul-add (a / p + b / p) p (a % p + b % p) fits

-- in each lane, 127 more than its lower bits
sum_lane : (x lane : ℕ) → lane < 6
    → (bit_and x low_bits + low_bits) / 2 ^ (8 * lane) % 256 ≡ x / 2 ^ (8 * lane) % 256 % 128 + 127
sum_lane x lane below =
    let p = 2 ^ (8 * lane) in
    let rest = masked_rest x lane in
    let half = low_rest lane below in
    let sum = no_carry (bit_and x low_bits) low_bits p (omega (arith, rest, half)) in
    ap (λ (n : ℕ). n % 256) sum
    ∙ lane_sum (bit_and x low_bits / p) (low_bits / p) (x / p % 256 % 128) (masked_lane x lane below) (low_lane lane
    below) (mod-lt (x / p % 256) (omega arith))
  where
    lane_sum : (a b c : ℕ) → a % 256 ≡ c → b % 256 ≡ 127 → c < 128 → (a + b) % 256 ≡ c + 127
    lane_sum a b c ea eb few = omega arith

-- the highest bit of a lane
pub high_bit : (n lane : ℕ) → bit_at n (8 * lane + 7) ≡ n / 2 ^ (8 * lane) % 256 / 128
high_bit n lane = sym (shr_bit n (8 * lane) 7) ∙ top (n / 2 ^ (8 * lane))
  where
    top : (m : ℕ) → m / 2 ^ 7 % 2 ≡ m % 256 / 128
    top m = omega arith

-- no bit of a number below 256 is set exactly where neither its highest nor one of the lower ones is
none_set : (x : ℕ) → x < 256 → x ≡ 0 → min (1 - max ((x % 128 + 127) / 128) (x / 128)) 1 ≡ 1
none_set x few none = omega arith

some_set : (x : ℕ) → x < 256 → x ≢ 0 → min (1 - max ((x % 128 + 127) / 128) (x / 128)) 1 ≡ 0
some_set x few some = omega arith

high_alone : (lane : ℕ) → lane < 6 → high_bits / 2 ^ (8 * lane) % 128 ≡ 0
high_alone lane below = below_six (λ l. high_bits / 2 ^ (8 * l) % 128 ≡ 0) refl refl refl refl refl refl lane below

-- of a lane no bit but the highest is left
pub lane_alone : (n lane : ℕ) → lane < 6 → tag_in (bit_and n high_bits) lane % 128 ≡ 0
lane_alone n lane below =
    low_part (bit_and n high_bits / 2 ^ (8 * lane))
    ∙ (ap (λ (m : ℕ). m % 2 ^ 7) (and_shr n high_bits (8 * lane))
    ∙ (and_mod (n / 2 ^ (8 * lane)) (high_bits / 2 ^ (8 * lane)) 7
    ∙ (ap (λ (m : ℕ). bit_and (n / 2 ^ (8 * lane) % 2 ^ 7) m) (high_alone lane below)
    ∙ none (n / 2 ^ (8 * lane) % 2 ^ 7))))
  where
    low_part : (m : ℕ) → m % 256 % 128 ≡ m % 128
    low_part m = omega arith

    none : (m : ℕ) → bit_and m 0 ≡ 0
    none m = omega (arith, and_le_r m 0)

-- the lanes in which no bit differs from the tag, each by its highest bit
pub lane_bit : (tags tag lane : ℕ) → tags < 2 ^ 64 → tag < 256 → lane < 6
    → bit_at (bit_and (bit_not w64 (bit_or (bit_and (bit_xor tags (tag * ones)) low_bits + low_bits) (bit_xor tags
    (tag * ones)))) high_bits) (8 * lane + 7)
    ≡ cond (eqb (tag_in tags lane) tag) 1 0
lane_bit tags tag lane fits few below =
    let x = bit_xor tags (tag * ones) in
    let low = bit_and x low_bits + low_bits in
    let i = 8 * lane + 7 in
    let xl = x / 2 ^ (8 * lane) % 256 in
    let x_fits : x < 2 ^ 64 = xor_lt 64 tags (tag * ones) fits (omega arith) in
    let masked = and_le_r x low_bits in
    let low_fits : low < 2 ^ 64 = omega (arith, masked) in
    let low_bit : bit_at low i ≡ (xl % 128 + 127) / 128 = high_bit low lane ∙ ap (λ (n : ℕ). n / 128) (sum_lane x
    lane below) in
    let x_bit : bit_at x i ≡ xl / 128 = high_bit x lane in
    let not_bit : bit_at (bit_not w64 (bit_or low x)) i ≡ 1 - bit_at (bit_or low x) i =
    bit_at_not w64 (bit_or low x) i (or_lt 64 low x low_fits x_fits) (omega arith) in
    let all : bit_at (bit_and (bit_not w64 (bit_or low x)) high_bits) i ≡ min (1 - max ((xl % 128 + 127) / 128) (xl /
    128)) 1 =
    bit_at_and (bit_not w64 (bit_or low x)) high_bits i
    ∙ (ap (λ (n : ℕ). min (bit_at (bit_not w64 (bit_or low x)) i) n) (high_lane lane below)
    ∙ (ap (λ (n : ℕ). min n 1) not_bit
    ∙ (ap (λ (n : ℕ). min (1 - n) 1) (bit_at_or low x i)
    ∙ (ap (λ (n : ℕ). min (1 - max n (bit_at x i)) 1) low_bit
    ∙ ap (λ (n : ℕ). min (1 - max ((xl % 128 + 127) / 128) n) 1) x_bit)))) in
    let xl_fits : xl < 256 = mod-lt (x / 2 ^ (8 * lane)) (omega arith) in
    let differs = apart_lane tags tag lane few below in
    all ∙ ⊎_elim
    (λ same.
    none_set xl xl_fits (differs ∙ (ap (λ (n : ℕ). bit_xor n tag) same ∙ xor_self tag))
    ∙ sym (cond-true (eqb (tag_in tags lane) tag) 1 0 (eq-eqb (tag_in tags lane) tag same)))
    (λ apart.
    some_set xl xl_fits (λ e. apart (xor_none (tag_in tags lane) tag (sym differs ∙ e)))
    ∙ sym (cond-false (eqb (tag_in tags lane) tag) 1 0 (ne_eqb (tag_in tags lane) tag apart)))
    (cases_eq (tag_in tags lane) tag)
