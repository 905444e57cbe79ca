-- What a configuration without a fault keeps.
use Rattle.std.proofs.Common.{◌≡◌, ◌≤◌, Bool, true, false, cond, Option, None, Some, option_map, refl}
use Rattle.std.specs.Prelude.{nat_lt}
use Rattle.std.proofs.lemmas.Bool.{ltb-false}
use Rattle.cache_config.specs.Choosing.{IsPartCount}
use Rattle.cache_config.specs.Configs.{first_cache_fault}
use Rattle.cache_config.proofs.Soundness.{sound}
use Rattle.cache_handles.specs.declared.config.ByteConfig.{ByteConfig}
use Rattle.cache_handles.specs.declared.config.ByteFault.TheVariants.{KeyBytes, ValueBytes, Cache}
use Rattle.cache_handles.specs.Configs.{first_byte_fault, most_key_bytes, most_value_bytes}

-- a test for a fault that found none failed, and the tests behind it found none
clear : {A : Type 0} (b : Bool) (x : A) (o : Option A) → cond b (Some x) o ≡ None → (b ≡ false) × (o ≡ None)
clear true x o e = absurd (let u : ⊥ = cc e in u)
clear false x o e = (refl, e)

-- a fault that is made of none is none
none_made : {A B : Type 0} (f : A → B) (o : Option A) → option_map f o ≡ None → o ≡ None
none_made f None e = refl
none_made f (Some a) e = absurd (let u : ⊥ = cc e in u)

-- a configuration without faults is within its bounds
pub record IsByteSound (config : ByteConfig) : Type 0 where
  pub key : config.key_bytes ≤ most_key_bytes
  pub value : config.value_bytes ≤ most_value_bytes
  pub cache : first_cache_fault config.cache ≡ None

pub byte_sound : (config : ByteConfig) → first_byte_fault config ≡ None → IsByteSound config
byte_sound config none =
    let key = clear (nat_lt most_key_bytes config.key_bytes) KeyBytes _ none in
    let value = clear (nat_lt most_value_bytes config.value_bytes) ValueBytes _ key.1 in
    record {
      key = ltb-false most_key_bytes config.key_bytes key.0;
      value = ltb-false most_value_bytes config.value_bytes value.0;
      cache = none_made Cache (first_cache_fault config.cache) value.1;
    }

-- such a cache has as many parts as there may be
pub parts_counted : (config : ByteConfig) → first_byte_fault config ≡ None → IsPartCount config.cache.parts
parts_counted config none =
    let is = sound config.cache (byte_sound config none).cache in (is.parts_least, is.parts_most)
