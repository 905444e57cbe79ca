-- What opening a cache from C comes to.
use Rattle.std.specs.Prelude.{◌≡◌, ℕ, ◌+◌, ◌==◌, if◌then◌else◌, min, List, [], ◌∷◌, Option, None, Some, unwrap_or}
use Rattle.atomic_table.specs.Seated.{TableId}
use Rattle.cache_handles.specs.declared.config.ByteConfig.{ByteConfig}
use Rattle.cache_handles.specs.declared.config.ByteFault.{ByteFault}
use Rattle.cache_handles.specs.Configs.{first_byte_fault}
use Rattle.cache_handles.specs.Opening.{IsOpenedCache}
use Rattle.cache_handles.specs.Views.{OpenedCacheView}
use Rattle.bump_c.specs.declared.cache_opening.CacheNumbers.{CacheNumbers}
use Rattle.bump_c.specs.Numbers.{given_of}
use Rattle.bump_c.specs.CacheNumbers.{number_of_byte_fault}

-- a number of ticks that may be left out: 0 stands for none
abbrev pub ticks_of : ℕ → Option ℕ
ticks_of ticks = if ticks == 0 then None else Some ticks

-- the configuration of these numbers
abbrev pub cache_config_of : CacheNumbers → ByteConfig
cache_config_of numbers = record {
  cache = record {
    items = numbers.items;
    spare = numbers.spare;
    hot = numbers.hot;
    warm = numbers.warm;
    hot_age = given_of numbers.hot_age;
    warm_age = given_of numbers.warm_age;
    parts = numbers.parts;
    readers = numbers.readers;
    ring = numbers.ring;
    temporary = ticks_of numbers.temporary;
    expiry_looks = numbers.looks;
    seed = record { first = numbers.seed_first; second = numbers.seed_second };
  };
  key_bytes = numbers.key_bytes;
  value_bytes = numbers.value_bytes;
}

-- the numbers of a configuration, where a program has no holds
abbrev pub cache_numbers_of : ByteConfig → CacheNumbers
cache_numbers_of config = record {
  seed_first = config.cache.seed.first;
  seed_second = config.cache.seed.second;
  temporary = unwrap_or config.cache.temporary 0;
  key_bytes = config.key_bytes;
  value_bytes = config.value_bytes;
  items = config.cache.items;
  spare = config.cache.spare;
  hot = config.cache.hot;
  warm = config.cache.warm;
  hot_age = unwrap_or config.cache.hot_age 4294967295;
  warm_age = unwrap_or config.cache.warm_age 4294967295;
  parts = config.cache.parts;
  readers = config.cache.readers;
  ring = config.cache.ring;
  looks = config.cache.expiry_looks;
  holds = 0;
}

-- a reader's places: one more than a program has holds, as far as that is a number of 32 bits
abbrev pub places_of : ℕ → ℕ
places_of holds = min (holds + 1) 4294967295

-- the slot has a cache that was opened from this configuration, whose readers have so many places
abbrev pub HasOpenedCache : ByteConfig → ℕ → List (TableId × OpenedCacheView) → Type 0
HasOpenedCache config places slot = (table : TableId) × (opened : OpenedCacheView) × (slot ≡ (table, opened) ∷ [])
    × IsOpenedCache config places opened

-- No cache is opened from this configuration, for its first fault; or where it has none, since memory was refused: 9.
pub record IsWhyNoCache (config : ByteConfig) (answer : ℕ) : Type 0 where
  pub fault : (first : ByteFault) → first_byte_fault config ≡ Some first → answer ≡ number_of_byte_fault first
  pub memory : first_byte_fault config ≡ None → answer ≡ 9
