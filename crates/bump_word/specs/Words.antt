-- Which number a Head is.
use Rattle.std.specs.Prelude.{◌≡◌, ℕ, ◌+◌, ◌*◌, ◌/◌, ◌%◌, ◌^◌, ◌<◌, bit_xor, Option, Some}
use Rattle.bump_rules.specs.declared.items.Head.{Head}
use Rattle.bump_rules.specs.Lawful.{bit}
use Rattle.bump_rules.specs.declared.places.Segment.{Segment}
use Rattle.bump_rules.specs.declared.places.Segment.TheVariants.{Hot, Warm, Cold, Temp}
use Rattle.bump_word.specs.Layout.{refs_width, linked_first, fetched_first, active_first, segment_first, segment_width}
use Rattle.bump_word.specs.Layout.{zero_first, zero_width, generation_first, generation_width}

-- the number of a segment
abbrev pub segment_number : Segment → ℕ
segment_number Hot = 0
segment_number Warm = 1
segment_number Cold = 2
segment_number Temp = 3

-- the word of a Head: each field, shifted to its place
abbrev pub word_of : Head → ℕ
word_of h = h.refs
    + 2 ^ linked_first * bit h.linked
    + 2 ^ fetched_first * bit h.fetched
    + 2 ^ active_first * bit h.active
    + 2 ^ segment_first * segment_number h.segment
    + 2 ^ generation_first * h.generation

-- each number of the Head fits into its bits
abbrev pub Fits : Head → Type 0
Fits h = (h.refs < 2 ^ refs_width) × (h.generation < 2 ^ generation_width)

-- the number is the word of this Head
abbrev pub Spells : ℕ → Head → Type 0
Spells n h = (n ≡ word_of h) × Fits h

-- what `pack` gives for a Head: its word
abbrev pub IsPacked : Head → ℕ → Type 0
IsPacked h n = n ≡ word_of h

-- what `unpack` answers for a number: whichever Head it is the word of, that Head is the answer
abbrev pub FindsHead : ℕ → Option Head → Type 0
FindsHead n answer = (h : Head) → Spells n h → answer ≡ Some h

-- the number that the bits make that are zero in each Head's word
abbrev pub zeros_of : ℕ → ℕ
zeros_of n = n / 2 ^ zero_first % 2 ^ zero_width

-- the number that the segment's bits make
abbrev pub segment_bits : ℕ → ℕ
segment_bits n = n / 2 ^ segment_first % 2 ^ segment_width

-- the exclusive or of two segments' numbers, at the segment's place
abbrev pub segment_change : Segment → Segment → ℕ
segment_change a b = bit_xor (segment_number a) (segment_number b) * 2 ^ segment_first
