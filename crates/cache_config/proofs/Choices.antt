-- The part that is chosen by a hash.
use Rattle.std.proofs.Common.{ℕ, ◌*◌, ◌-◌, ◌/◌, ◌%◌, ◌^◌, ◌<◌, ◌≤◌, arith}
use Rattle.std.proofs.Math.Nat.{div-lt_iff_lt-mul, mod-lt, mul-le-mul_right}
use Rattle.cache_config.specs.Configs.{most_parts}

-- a part chosen by the lower half of a full hash is one of the parts
pub below_parts : (parts full : ℕ) → 1 ≤ parts → parts ≤ most_parts → full % 2 ^ 32 * parts / 2 ^ 32 < parts
below_parts parts full some few =
    let half : full % 2 ^ 32 < 2 ^ 32 = mod-lt full (omega arith) in
    let most : full % 2 ^ 32 * parts ≤ (2 ^ 32 - 1) * parts = mul-le-mul_right parts (omega (arith, half)) in
    (div-lt_iff_lt-mul {k = 2 ^ 32} {x = full % 2 ^ 32 * parts} {y = parts} (omega arith)).1 (omega (arith, most, some))
