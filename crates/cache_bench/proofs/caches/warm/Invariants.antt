use Rattle.std.proofs.Common.{◌≡◌}
use Rattle.cache_bench.proofs.caches.warm.Given as goal

-- a tend keeps the caller's parts
abbrev pub invariant-loop-count : goal.invariant-loop-count
invariant-loop-count g l = l.me.parts ≡ l.fn.me.parts
