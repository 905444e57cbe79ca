-- What contracts see of a cache.
use Rattle.std.specs.Prelude.{ℕ, List}
use Rattle.keyed_hash.specs.declared.seed.Seed.{Seed}
use Rattle.keyed_hash.specs.Hashes.{full_hash_of}
use Rattle.cache_config.specs.Choosing.{part_of}

-- how many parts it has, and the seed of the keys' hashes
pub record CacheView : Type 0 where
  pub parts : ℕ
  pub seed : Seed

-- the part that a key is of, by number
abbrev pub part_in : CacheView → List ℕ → ℕ
part_in cache key = part_of cache.parts (full_hash_of cache.seed key)
