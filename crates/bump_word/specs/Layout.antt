-- Where each field of the head word stands: its first bit, and its number of bits. The reference count stands lowest.
use Rattle.std.specs.Prelude.{ℕ, ◌+◌, ◌-◌}

-- the reference count has this many bits
abbrev pub refs_width : ℕ
refs_width = 20

-- the bit that says that the item is linked
abbrev pub linked_first : ℕ
linked_first = refs_width

-- the bit that says that the item was hit
abbrev pub fetched_first : ℕ
fetched_first = linked_first + 1

-- the bit that says that the item was hit again
abbrev pub active_first : ℕ
active_first = fetched_first + 1

-- the first bit of the segment's number
abbrev pub segment_first : ℕ
segment_first = active_first + 1

-- the segment's number has this many bits
abbrev pub segment_width : ℕ
segment_width = 2

-- the first bit of the generation
abbrev pub generation_first : ℕ
generation_first = 32

-- the first of the bits that are zero
abbrev pub zero_first : ℕ
zero_first = segment_first + segment_width

-- that many bits are zero
abbrev pub zero_width : ℕ
zero_width = generation_first - zero_first

-- the generation has this many bits
abbrev pub generation_width : ℕ
generation_width = 32
