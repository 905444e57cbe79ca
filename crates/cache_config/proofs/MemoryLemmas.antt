-- How many bytes caches take, by how many items they have.
use Rattle.std.proofs.Common.{◌≡◌, ℕ, ◌+◌, ◌*◌, ◌<◌, ◌≤◌, ◌⊎◌, inl, inr, Bool, true, false, not, cond, Option, None, Some, ap, ap₂, sym, ◌∙◌, subst, arith}
use Rattle.std.specs.Prelude.{◌&&◌, ◌||◌, nat_lt}
use Rattle.std.proofs.lemmas.Bool.{le-leb, le-ltb}
use Rattle.std.proofs.Math.Nat.{le-mul_of_pos_right, mul-le-mul_right}
use Rattle.bump_rules.specs.Configs.{is_within, most_capacity, most_chunks, most_workers}
use Rattle.keyed_hash.specs.declared.seed.Seed.{Seed}
use Rattle.cache_config.specs.declared.config.CacheFault.{CacheFault}
use Rattle.cache_config.specs.declared.config.CacheFault.TheVariants.{Items, Spare, Parts, Readers}
use Rattle.cache_config.specs.declared.config.CacheConfig.{CacheConfig}
use Rattle.cache_config.specs.Configs.{all_chunks, class_of, even_share, first_cache_fault, most_parts, new_config, spare_of}
use Rattle.cache_config.specs.Memory.{bytes_of, index_bytes, list_bytes, packing_bytes, part_bytes, reader_bytes, row_bytes, shared_bytes, sum_of_parts}
use Rattle.cache_config.proofs.Evens.{share_most, shares_all, shares_before}
use Rattle.cache_config.proofs.Soundness.{sound}

-- a part of a configuration without faults has no more chunks than a store may have
pub few_chunks : (config : CacheConfig) (part : ℕ) → first_cache_fault config ≡ None → part < config.parts
    → (class_of config part).chunks ≤ most_chunks
few_chunks config part none low =
    let is = sound config none in
    let some : 0 < config.parts = omega (arith, low) in
    omega (
      arith,
      is.chunks_most,
      share_most config.items config.parts part low,
      le-mul_of_pos_right config.spare some,
    )

-- all parts together have no more
pub few_chunks_all : (config : CacheConfig) → first_cache_fault config ≡ None
    → all_chunks config ≤ most_chunks
few_chunks_all config none = (sound config none).chunks_most

-- a configuration without faults has no more readers than a cache may have
pub few_readers : (config : CacheConfig) → first_cache_fault config ≡ None → config.readers ≤ 64
few_readers config none = (sound config none).readers_most

-- nor more workers
pub few_moves : (config : CacheConfig) → first_cache_fault config ≡ None → config.readers * config.parts ≤ most_workers
few_moves config none = (sound config none).workers_most

-- nor more parts than a cache has
pub few_parts : (config : CacheConfig) → first_cache_fault config ≡ None → config.parts ≤ most_parts
few_parts config none = (sound config none).parts_most

-- nor a ring with more room than a ring has
pub small_ring : (config : CacheConfig) → first_cache_fault config ≡ None → config.ring ≤ most_capacity
small_ring config none = (sound config none).ring_most

-- all bytes of a cache of one part, of so many chunks, and so many readers whose rings have this room
abbrev one_part_bytes : ℕ → ℕ → ℕ → ℕ → ℕ → ℕ
one_part_bytes chunks readers ring key_words value_words =
    row_bytes chunks (key_words + value_words)
    + (list_bytes chunks + index_bytes chunks + 80 + 96 * readers + packing_bytes key_words value_words + 680
    + 8 * (readers * 1) + 1)
    + readers * reader_bytes 1 ring + shared_bytes

-- the only part has all
all_in_one : (total : ℕ) → even_share total 1 0 ≡ total
all_in_one total =
    let none : shares_before total 1 1 ≡ even_share total 1 0 = omega arith in
    sym none ∙ shares_all total 1 (omega arith)

-- a cache as `CacheConfig::new` has it takes them
one_part : (items readers : ℕ) (seed : Seed) (key_words value_words : ℕ)
    → bytes_of (new_config items readers seed) key_words value_words
    ≡ one_part_bytes (items + spare_of readers) readers 8192 key_words value_words
one_part items readers seed key_words value_words =
    let chunks : (class_of (new_config items readers seed) 0).chunks ≡ items + spare_of readers =
    ap (λ n. n + spare_of readers) (all_in_one items) in
    let all : items + spare_of readers * 1 ≡ items + spare_of readers = omega arith in
    let sum : sum_of_parts (part_bytes (new_config items readers seed) key_words value_words) 1
    ≡ part_bytes (new_config items readers seed) key_words value_words 0 = omega arith in
    ap₂ (λ rows n. row_bytes rows (key_words + value_words) + n + readers * reader_bytes 1 8192 + shared_bytes) all sum
    ∙ ap (λ n. row_bytes (items + spare_of readers) (key_words + value_words)
    + (list_bytes n + index_bytes n + 80 + 96 * readers + packing_bytes key_words value_words + 680 + 8 * (readers * 1) + 1)
    + readers * reader_bytes 1 8192 + shared_bytes) chunks

-- more chunks take no fewer bytes
more_bytes : (few many readers ring key_words value_words : ℕ) → few ≤ many
    → one_part_bytes few readers ring key_words value_words ≤ one_part_bytes many readers ring key_words value_words
more_bytes few many readers ring key_words value_words more =
    omega (arith, more, mul-le-mul_right (key_words + value_words) more)

-- more items take no fewer bytes
pub more_items : (few many readers : ℕ) (seed : Seed) (key_words value_words : ℕ) → few ≤ many
    → bytes_of (new_config few readers seed) key_words value_words
    ≤ bytes_of (new_config many readers seed) key_words value_words
more_items few many readers seed key_words value_words more =
    let grow = more_bytes (few + spare_of readers) (many + spare_of readers) readers 8192 key_words value_words
    (omega (arith, more)) in
    subst (λ n. n ≤ bytes_of (new_config many readers seed) key_words value_words)
    (sym (one_part few readers seed key_words value_words))
    (subst (λ n. one_part_bytes (few + spare_of readers) readers 8192 key_words value_words ≤ n)
    (sym (one_part many readers seed key_words value_words)) grow)

-- no numbers test as out of bounds that aren't
pub not_without : (least most n : ℕ) → least ≤ n → n ≤ most → is_within least most n ≡ false → ⊥
not_without least most n low high out =
    let both : is_within least most n ≡ true = ap₂ (λ a b. a && b) (le-leb least n low) (le-leb n most high) in
    cc (sym both ∙ out)

-- where a cache of some items has room, readers are within their bounds and one of one item has room, too
pub room_for_one : (items limit readers : ℕ) (seed : Seed) (key_words value_words : ℕ) → 1 ≤ items
    → 1 ≤ readers → readers ≤ 64 → bytes_of (new_config items readers seed) key_words value_words ≤ limit
    → (is_within 1 64 readers ≡ false) ⊎ (limit < bytes_of (new_config 1 readers seed) key_words value_words) → ⊥
room_for_one items limit readers seed key_words value_words some least most fits (inl out) =
    not_without 1 64 readers least most out
room_for_one items limit readers seed key_words value_words some least most fits (inr over) =
    omega (arith, over, fits, more_items 1 items readers seed key_words value_words some)
