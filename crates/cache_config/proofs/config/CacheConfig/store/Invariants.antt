use Rattle.std.proofs.Common.{◌≡◌, ℕ, ◌<◌, length, Some}
use Rattle.std.specs.List.{slice_get}
use Rattle.cache_config.specs.Configs.{class_of}
use Rattle.cache_config.proofs.config.CacheConfig.store.Given as goal

-- so many classes there are, each that of its part
abbrev pub invariant-loop-part : goal.invariant-loop-part
invariant-loop-part l = record {
  count : length l.classes.items ≡ l.part;
  class : (part : ℕ) → part < l.part → slice_get l.classes.items part ≡ Some (class_of l.self part);
}
