-- The tags of the lanes of a nest, and of a hash.
use Rattle.std.specs.Prelude.{ℕ, ◌*◌, ◌/◌, ◌%◌, ◌^◌, ◌==◌, if◌then◌else◌}

-- how many lanes a nest has
abbrev pub lanes : ℕ
lanes = 6

-- the tag of a hash: its lowest 8 bits, but 1 in place of 0
abbrev pub tag_of : ℕ → ℕ
tag_of hash = if hash % 256 == 0 then 1 else hash % 256

-- the tag of a lane in the word of a nest's tags
abbrev pub tag_in : ℕ → ℕ → ℕ
tag_in tags lane = tags / 2 ^ (8 * lane) % 256
