-- The hash of words under a seed.
use Rattle.std.specs.Prelude.{ℕ, ◌*◌, ◌/◌, ◌%◌, ◌^◌, List, length, bit_xor, fold}
use Rattle.keyed_hash.specs.declared.seed.Seed.{Seed}

-- the product of two words has two halves: each bit of the one is flipped where that bit of the other is set
abbrev pub mix : ℕ → ℕ → ℕ
mix a b = bit_xor (a * b % 2 ^ 64) (a * b / 2 ^ 64)

-- before any word, the state is the seed's first number
abbrev pub start : Seed → ℕ
start seed = bit_xor seed.first 0xa076_1d64_78bd_642f

-- a word more is mixed with the seed's second number
abbrev pub with_word : Seed → ℕ → ℕ → ℕ
with_word seed state word = mix (bit_xor state word) (bit_xor seed.second 0xe703_7ed1_a0b4_28db)

-- the number of words is mixed in last
abbrev pub finish : ℕ → ℕ → ℕ
finish state count = mix state (bit_xor count 0x8ebc_6af0_9c88_c6e3)

-- the full hash of the words, from the first to the last: a number below 2^64
abbrev pub full_hash_of : Seed → List ℕ → ℕ
full_hash_of seed words = finish (fold (with_word seed) (start seed) words) (length words)

-- the upper half of a full hash
abbrev pub upper_half : ℕ → ℕ
upper_half full = full / 2 ^ 32

-- the hash of the words, a number below 2^32: the upper half of their full hash
abbrev pub hash_of : Seed → List ℕ → ℕ
hash_of seed words = upper_half (full_hash_of seed words)
