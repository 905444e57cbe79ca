use Rattle.std.proofs.Common.{◌≡◌, take}
use Rattle.cache_config.specs.Sums.{misses_of}
use Rattle.cache_config.proofs.sums.misses_in.Given as goal

-- the sum over the first parts
abbrev pub invariant-loop-part : goal.invariant-loop-part
invariant-loop-part g l = l.misses ≡ misses_of (take l.part-index l.parts)
