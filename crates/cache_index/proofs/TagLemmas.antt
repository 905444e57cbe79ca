-- The tag of one lane is written, and those of the others stay.
use Rattle.std.proofs.Common.{◌≡◌, ◌≢◌, ℕ, ◌+◌, ◌-◌, ◌*◌, ◌/◌, ◌%◌, ◌^◌, ◌<◌, ◌≤◌}
use Rattle.std.proofs.Common.{sym, ap, ◌∙◌, subst, arith, ⊎_elim}
use Rattle.std.proofs.Math.Nat.{div-div-eq-div-mul, add-mul-div_left, add-mul-mod_self_left, mod-lt, mod-eq_of_lt}
use Rattle.std.proofs.Math.Nat.{div-add-mod, div-lt_iff_lt-mul, mul-le-mul_left}
use Rattle.std.proofs.Math.Pow.{pow-lt}
use Rattle.std.proofs.lemmas.Nat.{pow-add, pow_pos, div-mul-add, mod-mul-add}
use Rattle.std.proofs.lemmas.Bool.{cases_lt}
use Rattle.cache_index.specs.Tags.{tag_in}

-- the number whose 8 bits from p on are t, and else those of w
abbrev pub with_bits : ℕ → ℕ → ℕ → ℕ
with_bits w p t = w - w / p % 256 * p + t * p

-- what stands below p, the 8 bits, and what stands above them
parts : (w p : ℕ) → w ≡ w % p + (p * (w / p % 256) + p * (256 * (w / p / 256)))
parts w p =
    let e = div-add-mod w p in
    let h = ap (λ (n : ℕ). p * n) (div-add-mod (w / p) 256) in
    omega (arith, e, h)

with_bits-parts : (w p t : ℕ) → with_bits w p t ≡ w % p + p * (t + 256 * (w / p / 256))
with_bits-parts w p t = omega (arith, parts w p)

with_bits-div : (w p t : ℕ) → 0 < p → with_bits w p t / p ≡ 256 * (w / p / 256) + t
with_bits-div w p t some =
    let q = 256 * (w / p / 256) + t in
    let form : with_bits w p t ≡ q * p + w % p = omega (arith, with_bits-parts w p t) in
    ap (λ (n : ℕ). n / p) form ∙ div-mul-add q p (w % p) (mod-lt w some)

bits_here : (w p t : ℕ) → 0 < p → t < 256 → with_bits w p t / p % 256 ≡ t
bits_here w p t some few =
    ap (λ (n : ℕ). n % 256) (with_bits-div w p t some ∙ (let e : 256 * (w / p / 256) + t ≡ w / p / 256 * 256 + t =
    omega arith in e))
    ∙ mod-mul-add (w / p / 256) 256 t few

bits_above_p : (w p t : ℕ) → 0 < p → t < 256 → with_bits w p t / p / 256 ≡ w / p / 256
bits_above_p w p t some few =
    ap (λ (n : ℕ). n / 256) (with_bits-div w p t some ∙ (let e : 256 * (w / p / 256) + t ≡ w / p / 256 * 256 + t =
    omega arith in e))
    ∙ div-mul-add (w / p / 256) 256 t few

bits_above : (w p r t : ℕ) → 0 < p → t < 256 → with_bits w p t / (p * (256 * r)) ≡ w / (p * (256 * r))
bits_above w p r t some few =
    sym (div-div-eq-div-mul (with_bits w p t) p (256 * r))
    ∙ sym (div-div-eq-div-mul (with_bits w p t / p) 256 r)
    ∙ ap (λ (n : ℕ). n / r) (bits_above_p w p t some few)
    ∙ div-div-eq-div-mul (w / p) 256 r
    ∙ div-div-eq-div-mul w p (256 * r)

-- of a number that begins with a, the 8 bits from q on don't see what stands from q * 256 * r on
bits_below_any : (a q r z : ℕ) → 0 < q → (a + q * (256 * (r * z))) / q % 256 ≡ a / q % 256
bits_below_any a q r z some =
    ap (λ (n : ℕ). n % 256) (add-mul-div_left a (256 * (r * z)) some) ∙ add-mul-mod_self_left (a / q) 256 (r * z)

bits_below : (w q r t : ℕ) → 0 < q → with_bits w (q * (256 * r)) t / q % 256 ≡ w / q % 256
bits_below w q r t some =
    let p = q * (256 * r) in
    let z = t + 256 * (w / p / 256) in
    let y = w / p % 256 + 256 * (w / p / 256) in
    let after : with_bits w p t ≡ w % p + q * (256 * (r * z)) =
    with_bits-parts w p t ∙ (let e : w % p + p * z ≡ w % p + q * (256 * (r * z)) = omega arith in e) in
    let before : w ≡ w % p + q * (256 * (r * y)) =
    parts w p ∙ (let e : w % p + (p * (w / p % 256) + p * (256 * (w / p / 256))) ≡ w % p + q * (256 * (r * y)) =
    omega arith in e) in
    ap (λ (n : ℕ). n / q % 256) after
    ∙ bits_below_any (w % p) q r z some
    ∙ sym (bits_below_any (w % p) q r y some)
    ∙ sym (ap (λ (n : ℕ). n / q % 256) before)

-- the bits of a lane begin 8 bits and some lanes behind those of a lane before it
lane_behind : (lane more : ℕ) → 2 ^ (8 * (lane + (1 + more))) ≡ 2 ^ (8 * lane) * (256 * 2 ^ (8 * more))
lane_behind lane more =
    (let e : 8 * (lane + (1 + more)) ≡ 8 * lane + (8 + 8 * more) = omega arith in ap (λ (n : ℕ). 2 ^ n) e)
    ∙ pow-add 2 (8 * lane) (8 + 8 * more) ∙ ap (λ (n : ℕ). 2 ^ (8 * lane) * n) (pow-add 2 8 (8 * more))

-- the lane has the new tag
pub tag_here : (w lane t : ℕ) → t < 256 → tag_in (with_bits w (2 ^ (8 * lane)) t) lane ≡ t
tag_here w lane t few = bits_here w (2 ^ (8 * lane)) t (pow_pos (8 * lane)) few

tag_before : (w lane more t : ℕ) → tag_in (with_bits w (2 ^ (8 * (lane + (1 + more)))) t) lane ≡ tag_in w lane
tag_before w lane more t =
    let P : ℕ → Type 0 = λ p. with_bits w p t / 2 ^ (8 * lane) % 256 ≡ tag_in w lane in
    subst P (sym (lane_behind lane more)) (bits_below w (2 ^ (8 * lane)) (2 ^ (8 * more)) t (pow_pos (8 * lane)))

tag_after : (w lane more t : ℕ) → t < 256 → tag_in (with_bits w (2 ^ (8 * lane)) t) (lane + (1 + more)) ≡ tag_in w
    (lane + (1 + more))
tag_after w lane more t few =
    let P : ℕ → Type 0 = λ p. with_bits w (2 ^ (8 * lane)) t / p % 256 ≡ w / p % 256 in
    subst P (sym (lane_behind lane more))
    (ap (λ (n : ℕ). n % 256) (bits_above w (2 ^ (8 * lane)) (2 ^ (8 * more)) t (pow_pos (8 * lane)) few))

-- every other lane has the tag that it had
pub tag_elsewhere : (w lane t other : ℕ) → t < 256 → other ≢ lane
    → tag_in (with_bits w (2 ^ (8 * lane)) t) other ≡ tag_in w other
tag_elsewhere w lane t other few apart =
    ⊎_elim
    (λ before. let P : ℕ → Type 0 = λ l. tag_in (with_bits w (2 ^ (8 * l)) t) other ≡ tag_in w other in
    subst P (let e : other + (1 + (lane - other - 1)) ≡ lane = omega arith in e) (tag_before w other (lane - other -
    1) t))
    (λ behind. let P : ℕ → Type 0 = λ l. tag_in (with_bits w (2 ^ (8 * lane)) t) l ≡ tag_in w l in
    subst P (let e : lane + (1 + (other - lane - 1)) ≡ other = omega arith in e) (tag_after w lane (other - lane - 1)
    t few))
    (cases_lt other lane)

-- the bits of the first six lanes stand below 2 ^ 64
lane_room : (lane : ℕ) → lane < 6 → 2 ^ (8 * lane) * (256 * 2 ^ (56 - 8 * lane)) ≡ 2 ^ 64
lane_room lane few =
    sym (ap (λ (n : ℕ). 2 ^ (8 * lane) * n) (pow-add 2 8 (56 - 8 * lane)))
    ∙ sym (pow-add 2 (8 * lane) (8 + (56 - 8 * lane)))
    ∙ (let e : 8 * lane + (8 + (56 - 8 * lane)) ≡ 64 = omega arith in ap (λ (n : ℕ). 2 ^ n) e)

with_bits-lt : (w p m t : ℕ) → 0 < p → t < 256 → w < p * (256 * m) → with_bits w p t < p * (256 * m)
with_bits-lt w p m t some few fits =
    let c = w / p / 256 in
    let pm : w < m * (p * 256) = omega arith in
    let low = (div-lt_iff_lt-mul (let e : 0 < p * 256 = omega arith in e)).1 pm in
    let here : c < m = subst (λ (n : ℕ). n < m) (sym (div-div-eq-div-mul w p 256)) low in
    let more = mul-le-mul_left (p * 256) (let e : c + 1 ≤ m = omega arith in e) in
    let rest = mod-lt w some in
    let tag = mul-le-mul_left p (let e : t ≤ 255 = omega arith in e) in
    omega (arith, with_bits-parts w p t, more, rest, tag)

-- a nest's word with a new tag fits, and so does the tag where it stands
pub tags_fit : (w lane t : ℕ) → lane < 6 → t < 256 → w < 2 ^ 64 → with_bits w (2 ^ (8 * lane)) t < 2 ^ 64
tags_fit w lane t lane_few few fits =
    let P : ℕ → Type 0 = λ n. with_bits w (2 ^ (8 * lane)) t < n in
    let Q : ℕ → Type 0 = λ n. w < n in
    subst P (lane_room lane lane_few)
    (with_bits-lt w (2 ^ (8 * lane)) (2 ^ (56 - 8 * lane)) t (pow_pos (8 * lane)) few (subst Q (sym (lane_room lane
    lane_few)) fits))

pub tag_fits : (lane t : ℕ) → lane < 6 → t < 256 → t * 2 ^ (8 * lane) < 2 ^ 64
tag_fits lane t lane_few few =
    let h = tags_fit 0 lane t lane_few few (omega arith) in
    let le : t * 2 ^ (8 * lane) ≤ with_bits 0 (2 ^ (8 * lane)) t = omega arith in
    omega arith

-- a one, moved up to a lane
pub one_at : (lane : ℕ) → lane < 6 → 1 * 2 ^ (8 * lane) % 2 ^ 64 ≡ 2 ^ (8 * lane)
one_at lane few =
    ap (λ (n : ℕ). n % 2 ^ 64) (let e : 1 * 2 ^ (8 * lane) ≡ 2 ^ (8 * lane) = omega arith in e)
    ∙ mod-eq_of_lt (pow-lt (let e : 8 * lane < 64 = omega arith in e))
