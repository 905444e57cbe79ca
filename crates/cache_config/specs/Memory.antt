-- How many bytes a cache asks for that it keeps: each part of them, by what lies there.
use Rattle.std.specs.Prelude.{◌≡◌, ℕ, zero, suc, ◌+◌, ◌*◌, ◌<◌, ◌≤◌}
use Rattle.bump_rules.specs.Configs.{most_chunks}
use Rattle.cache_index.specs.Places.{nests_for}
use Rattle.keyed_hash.specs.declared.seed.Seed.{Seed}
use Rattle.cache_config.specs.declared.config.CacheConfig.{CacheConfig}
use Rattle.cache_config.specs.Configs.{all_chunks, class_of, new_config, spare_of}

-- the rows of all chunks, of all parts: head, time and label, and the words of a key and its value, 8 bytes each,
-- behind 14 words that are spare
abbrev pub row_bytes : ℕ → ℕ → ℕ
row_bytes chunks words = 8 * (14 + chunks * (3 + words))

-- the lists of a part: 12 bytes for each chunk's place in them, and for the ends of each of the seven
abbrev pub list_bytes : ℕ → ℕ
list_bytes chunks = 12 * (chunks + 7)

-- the index of a part: its nests of 64 bytes, behind 6 words that are spare; and 8 bytes for each chunk, by which its
-- lane is found again
abbrev pub index_bytes : ℕ → ℕ
index_bytes chunks = 48 + 64 * nests_for chunks + 8 * chunks

-- what a put or a removal packs and unpacks: a key; a row; a time and a value; a time and a row; 8 bytes a word
abbrev pub packing_bytes : ℕ → ℕ → ℕ
packing_bytes key_words value_words =
    8 * (key_words + (key_words + value_words) + (1 + value_words) + (1 + key_words + value_words))

-- a part, by its number: the lists and the index of its own chunks; the nests, with the count of who has them, 80; a
-- lane of 96 for each reader, which takes the bumps out of the reader's ring; what a call packs and unpacks; the part's
-- place in the vector of locks, 680, of which 64 on each side keep it apart from the next one's; a count of moves for each
-- reader of each part, 8; and the further part of the nests' table, which has no bytes: for it one is asked
abbrev pub part_bytes : CacheConfig → ℕ → ℕ → ℕ → ℕ
part_bytes config key_words value_words part =
    list_bytes (class_of config part).chunks + index_bytes (class_of config part).chunks + 80 + 96 * config.readers
    + packing_bytes key_words value_words + 680 + 8 * (config.readers * config.parts) + 1

-- a number for each part, of so many of the first parts, together
abbrev pub sum_of_parts : (ℕ → ℕ) → ℕ → ℕ
sum_of_parts bytes zero = 0
sum_of_parts bytes (suc part) = sum_of_parts bytes part + bytes part

-- one reader: itself, 40; and for each part its side of it, 168, the ends of a ring, 384, and the ring's room, 8 for
-- each bump
abbrev pub reader_bytes : ℕ → ℕ → ℕ
reader_bytes parts ring = 40 + parts * (168 + 384 + 8 * ring)

-- what all threads share: the heads, 104; and the further part of their table, which has no bytes: for it one is asked
abbrev pub shared_bytes : ℕ
shared_bytes = 104 + 1

-- all of a cache of this configuration, with keys and values of so many words
abbrev pub bytes_of : CacheConfig → ℕ → ℕ → ℕ
bytes_of config key_words value_words =
    row_bytes (all_chunks config) (key_words + value_words)
    + sum_of_parts (part_bytes config key_words value_words) config.parts
    + config.readers * reader_bytes config.parts config.ring + shared_bytes

-- The configuration is that which `CacheConfig::new` makes of these readers and this seed, and of the most items for
-- which a cache takes at most so many bytes.
pub record IsMostFor (limit readers : ℕ) (seed : Seed) (key_words value_words : ℕ) (config : CacheConfig) : Type 0 where
  pub as_new : config ≡ new_config config.items readers seed
  pub least : 1 ≤ config.items
  pub most : config.items + spare_of readers ≤ most_chunks
  pub fits : bytes_of config key_words value_words ≤ limit
  pub over : (items : ℕ) → config.items < items → items + spare_of readers ≤ most_chunks
      → limit < bytes_of (new_config items readers seed) key_words value_words
