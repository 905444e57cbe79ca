-- Which configurations of a cache are refused, why, and what a cache's store is made from.
use Rattle.std.specs.Prelude.{◌≡◌, ℕ, ◌+◌, ◌*◌, ◌/◌, ◌%◌, ◌<◌, min, Bool, not, ◌||◌, if◌then◌else◌, nat_lt, [], ◌∷◌, length, slice_get, Option, None, Some, find}
use Rattle.bump_rules.specs.declared.configs.ClassConfig.{ClassConfig}
use Rattle.bump_rules.specs.declared.configs.Config.{Config}
use Rattle.bump_rules.specs.Caches.{cache_refs}
use Rattle.bump_rules.specs.Configs.{is_within, most_chunks, most_capacity, most_classes}
use Rattle.keyed_hash.specs.declared.seed.Seed.{Seed}
use Rattle.cache_lists.specs.declared.ages.Bounds.{Bounds}
use Rattle.cache_config.specs.declared.config.CacheConfig.{CacheConfig}
use Rattle.cache_config.specs.declared.config.CacheFault.{CacheFault}
use Rattle.cache_config.specs.declared.config.CacheFault.TheVariants.{Items, Spare, Shares, Parts, Readers, Ring}
use Rattle.cache_config.specs.declared.config.CacheRefusal.{CacheRefusal}
use Rattle.cache_config.specs.declared.config.CacheRefusal.TheVariants.{Fault, Memory}

-- a cache has at most so many parts
abbrev pub most_parts : ℕ
most_parts = most_classes

-- and so many readers, each with a worker in each part
abbrev pub most_readers : ℕ
most_readers = 64

-- so many chunks all parts have together: those of the items, and the spare ones of each part
abbrev pub all_chunks : CacheConfig → ℕ
all_chunks config = config.items + config.spare * config.parts

-- whether a configuration has this fault
abbrev pub has_cache_fault : CacheConfig → CacheFault → Bool
has_cache_fault config Items = not (is_within 1 most_chunks config.items)
has_cache_fault config Spare = nat_lt config.spare 1 || nat_lt most_chunks (all_chunks config)
has_cache_fault config Shares = nat_lt 100 (config.hot + config.warm)
has_cache_fault config Parts = not (is_within 1 most_parts config.parts) || nat_lt config.items config.parts
has_cache_fault config Readers = not (is_within 1 most_readers config.readers)
has_cache_fault config Ring = not (is_within 1 most_capacity config.ring)

-- the first fault that it has, in the order in which they are looked for
abbrev pub first_cache_fault : CacheConfig → Option CacheFault
first_cache_fault config = find (has_cache_fault config) (Items ∷ Spare ∷ Shares ∷ Parts ∷ Readers ∷ Ring ∷ [])

-- the fault that a refusal tells, if it tells one
abbrev pub told_fault : Option CacheRefusal → Option CacheFault
told_fault None = None
told_fault (Some (Fault fault)) = Some fault
told_fault (Some Memory) = None

-- so many percent of the items, and all of them where it is more than 100
abbrev pub share_of : ℕ → ℕ → ℕ
share_of items percent = items * min percent 100 / 100

-- how many of so many come to a part, by its number: evenly many, and one more to the first ones where that isn't whole
abbrev pub even_share : ℕ → ℕ → ℕ → ℕ
even_share total parts part = total / parts + (if nat_lt part (total % parts) then 1 else 0)

-- at most so many items are in a part
abbrev pub items_in : CacheConfig → ℕ → ℕ
items_in config part = even_share config.items config.parts part

-- what keeps HOT and WARM of a part short in a cache of this configuration
abbrev pub bounds_of : CacheConfig → ℕ → Bounds
bounds_of config part = record {
  hot = share_of (items_in config part) config.hot;
  warm = share_of (items_in config part) config.warm;
  hot_age = config.hot_age;
  warm_age = config.warm_age;
}

-- a spare chunk for each reader, which may hold one item, and one more, for what is put, as far as that is a number
abbrev pub spare_of : ℕ → ℕ
spare_of readers = min (readers + 1) 4294967295

-- the configuration of a cache of so many items and readers as memcached has it, of one part and without TEMP
abbrev pub new_config : ℕ → ℕ → Seed → CacheConfig
new_config items readers seed = record {
  items = items;
  spare = spare_of readers;
  hot = 20;
  warm = 40;
  hot_age = Some 20;
  warm_age = Some 200;
  parts = 1;
  readers = readers;
  ring = 8192;
  temporary = None;
  expiry_looks = 1000;
  seed = seed;
}

-- the class of a cache's store that a part is of, whose lists have no limits of their own
abbrev pub class_of : CacheConfig → ℕ → ClassConfig
class_of config part = record { chunks = items_in config part + config.spare; hot = 0; warm = 0 }

-- The store is that of a cache of this configuration: it has a worker for each reader and part, and a class for each
-- part.
pub record IsStoreOf (config : CacheConfig) (store : Config) : Type 0 where
  pub workers : store.workers ≡ config.readers * config.parts
  pub capacity : store.capacity ≡ config.ring
  pub limit : store.refs_limit ≡ cache_refs
  pub generation : store.first_generation ≡ 1
  pub parts : length store.classes ≡ config.parts
  pub class : (part : ℕ) → part < config.parts → slice_get store.classes part ≡ Some (class_of config part)
