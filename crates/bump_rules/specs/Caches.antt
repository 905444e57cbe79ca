-- What a cache and the trace of one have in common.
use Rattle.std.specs.Prelude.{ℕ}

-- the limit of the references to an item of a cache
abbrev pub cache_refs : ℕ
cache_refs = 1023

-- so often a tend of a cache looks at the last items of HOT and WARM
abbrev pub looks : ℕ
looks = 100
