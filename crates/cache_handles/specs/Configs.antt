-- What a cache of byte strings is made from, and which configurations are refused.
use Rattle.std.specs.Prelude.{ℕ, suc, if◌then◌else◌, nat_lt, List, length, Option, None, Some, option_map}
use Rattle.packed_words.specs.Spelling.{long_string, words_for}
use Rattle.keyed_hash.specs.Hashes.{full_hash_of}
use Rattle.cache_config.specs.Choosing.{part_of}
use Rattle.cache_config.specs.Configs.{first_cache_fault, new_config}
use Rattle.cache_config.specs.Memory.{bytes_of}
use Rattle.cache_handles.specs.declared.config.ByteConfig.{ByteConfig}
use Rattle.cache_handles.specs.declared.config.ByteFault.{ByteFault}
use Rattle.cache_handles.specs.declared.config.ByteFault.TheVariants.{KeyBytes, ValueBytes, Cache}

-- the longest key that a cache may have, in bytes
abbrev pub most_key_bytes : ℕ
most_key_bytes = 1024

-- the longest value
abbrev pub most_value_bytes : ℕ
most_value_bytes = 1048576

-- how many words a key takes: those of the longest one
abbrev pub key_words_of : ByteConfig → ℕ
key_words_of config = words_for config.key_bytes

-- how many a value takes: one for its flags, and those of the longest one
abbrev pub value_words_of : ByteConfig → ℕ
value_words_of config = suc (words_for config.value_bytes)

-- the first fault of a configuration: of its lengths, or of what its cache is made from
abbrev pub first_byte_fault : ByteConfig → Option ByteFault
first_byte_fault config =
    if nat_lt most_key_bytes config.key_bytes then Some KeyBytes
    else (if nat_lt most_value_bytes config.value_bytes then Some ValueBytes
    else option_map Cache (first_cache_fault config.cache))

-- the configuration of a cache of so many items and readers as memcached has it, with a seed of zeros
abbrev pub default_config : ℕ → ℕ → ℕ → ℕ → ByteConfig
default_config items readers key_bytes value_bytes = record {
  cache = new_config items readers (record { first = 0; second = 0 });
  key_bytes = key_bytes;
  value_bytes = value_bytes;
}

-- the part of a key in a cache without this fault, if the key isn't too long
abbrev pub part_without : Option ByteFault → ByteConfig → List ℕ → Option ℕ
part_without (Some fault) config key = None
part_without None config key =
    if nat_lt config.key_bytes (length key) then None
    else Some (part_of config.cache.parts (full_hash_of config.cache.seed (long_string (key_words_of config) key)))

-- the part that a key is of, if one is made from this and the key isn't too long
abbrev pub part_of_key : ByteConfig → List ℕ → Option ℕ
part_of_key config key = part_without (first_byte_fault config) config key

-- how many bytes a cache without this fault takes, if it has none
abbrev pub bytes_without : Option ByteFault → ByteConfig → Option ℕ
bytes_without (Some fault) config = None
bytes_without None config = Some (bytes_of config.cache (key_words_of config) (value_words_of config))

-- how many bytes a cache of this takes, if one is made from it
abbrev pub bytes_taken_by : ByteConfig → Option ℕ
bytes_taken_by config = bytes_without (first_byte_fault config) config
