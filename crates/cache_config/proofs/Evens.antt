-- Even shares.
use Rattle.std.proofs.Common.{◌≡◌, ℕ, zero, suc, ◌+◌, ◌-◌, ◌*◌, ◌/◌, ◌%◌, ◌<◌, ◌≤◌, Bool, true, false, if◌then◌else◌, min, refl, ap, ◌∙◌, arith}
use Rattle.std.specs.Prelude.{nat_lt}
use Rattle.std.proofs.Math.Nat.{le-div_iff_mul-le, le-mul_of_pos_right, mod-add-div', mod-lt, mul-suc}
use Rattle.std.proofs.lemmas.Bool.{ltb-false, ltb-true}
use Rattle.cache_config.specs.Configs.{even_share}

-- one more or not is no more than all
one_more : (total parts even left part : ℕ) (b : Bool) → nat_lt part left ≡ b → left + even * parts ≡ total
    → even ≤ even * parts → even + (if b then 1 else 0) ≤ total
one_more total parts even left part true low all most =
    let below : part < left = ltb-true part left low in omega (arith, below, all, most)
one_more total parts even left part false low all most = omega (arith, all, most)

-- a share is no more than all
pub share_most : (total parts part : ℕ) → part < parts → even_share total parts part ≤ total
share_most total parts part low = one_more total parts (total / parts) (total % parts) part (nat_lt part (total %
    parts))
    refl (mod-add-div' total parts) (le-mul_of_pos_right (total / parts) (omega (arith, low)))

-- the shares of so many of the first parts
abbrev pub shares_before : ℕ → ℕ → ℕ → ℕ
shares_before total parts zero = 0
shares_before total parts (suc part) = shares_before total parts part + even_share total parts part

-- one more share
one_share : (even left part before : ℕ) (b : Bool) → nat_lt part left ≡ b → before ≡ even * part + min part left
    → before + (even + (if b then 1 else 0)) ≡ even * suc part + min (suc part) left
one_share even left part before true low is =
    let below : part < left = ltb-true part left low in omega (arith, below, is, mul-suc even part)
one_share even left part before false low is =
    let past : left ≤ part = ltb-false part left low in omega (arith, past, is, mul-suc even part)

-- are these
shares_are : (total parts part : ℕ)
    → shares_before total parts part ≡ total / parts * part + min part (total % parts)
shares_are total parts zero = omega arith
shares_are total parts (suc part) = one_share (total / parts) (total % parts) part (shares_before total parts part)
    (nat_lt part (total % parts)) refl (shares_are total parts part)

-- together they are all
pub shares_all : (total parts : ℕ) → 1 ≤ parts → shares_before total parts parts ≡ total
shares_all total parts some = shares_are total parts parts
    ∙ (let left : total % parts < parts = mod-lt total (omega (arith, some)) in
    omega (arith, left, mod-add-div' total parts))

-- the shares of more of the first parts are no less
shares_grow : (total parts part more : ℕ) → shares_before total parts part ≤ shares_before total parts (part + more)
shares_grow total parts part zero =
    let same : part ≡ part + 0 = omega arith in
    let e : shares_before total parts part ≡ shares_before total parts (part + 0) =
    ap (shares_before total parts) same in omega (arith, e)
shares_grow total parts part (suc more) =
    let next : suc (part + more) ≡ part + suc more = omega arith in
    let e : shares_before total parts (suc (part + more)) ≡ shares_before total parts (part + suc more) =
    ap (shares_before total parts) next in
    let so_far : shares_before total parts part ≤ shares_before total parts (part + more) =
    shares_grow total parts part more in
    omega (arith, so_far, e)

-- and none is more than all
pub shares_most : (total parts part : ℕ) → 1 ≤ parts → part ≤ parts → shares_before total parts part ≤ total
shares_most total parts part some low =
    let grow : shares_before total parts part ≤ shares_before total parts (part + (parts - part)) =
    shares_grow total parts part (parts - part) in
    let end : part + (parts - part) ≡ parts = omega (arith, low) in
    let e : shares_before total parts (part + (parts - part)) ≡ total =
    ap (shares_before total parts) end ∙ shares_all total parts some in
    omega (arith, grow, e)

-- where there are as many as parts each part has one
pub share_some : (total parts part : ℕ) → 1 ≤ parts → parts ≤ total → 1 ≤ even_share total parts part
share_some total parts part some many =
    let one : 1 ≤ total / parts =
    (le-div_iff_mul-le {k = parts} {x = 1} {y = total} (omega (arith, some))).1 (omega (arith, many)) in
    omega (arith, one)
