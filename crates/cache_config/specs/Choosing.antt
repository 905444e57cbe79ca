-- Which part of a cache a key is of.
use Rattle.std.specs.Prelude.{ℕ, ◌*◌, ◌/◌, ◌%◌, ◌^◌, ◌≤◌}
use Rattle.cache_config.specs.Configs.{most_parts}

-- a cache has 1 to 256 parts
abbrev pub IsPartCount : ℕ → Type 0
IsPartCount parts = (1 ≤ parts) × (parts ≤ most_parts)

-- The part, of so many, that a key with this full hash is of. It is by the lower half, of which the index of a part makes
-- nothing: its homes and tags are by the upper half.
abbrev pub part_of : ℕ → ℕ → ℕ
part_of parts full = full % 2 ^ 32 * parts / 2 ^ 32
