use Rattle.std.proofs.Common.{◌≡◌, ◌+◌}
use Rattle.cache_load.proofs.writers.some_of.Given as goal

-- the caller gave so many parts away
abbrev pub invariant-loop-number : goal.invariant-loop-number
invariant-loop-number g l = l.me.parts + l.number ≡ l.fn.me.parts
