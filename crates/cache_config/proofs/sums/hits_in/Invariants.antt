use Rattle.std.proofs.Common.{◌≡◌, take}
use Rattle.cache_config.specs.Sums.{hits_of}
use Rattle.cache_config.proofs.sums.hits_in.Given as goal

-- the sum over the first parts
abbrev pub invariant-loop-part : goal.invariant-loop-part
invariant-loop-part g l = l.hits ≡ hits_of (take l.part-index l.parts)
