use Rattle.std.proofs.Common.{◌≡◌}
use Rattle.cache_bench.proofs.caches.fill.Given as goal

-- a put keeps the caller's parts
abbrev pub invariant-loop-key : goal.invariant-loop-key
invariant-loop-key g l = l.me.parts ≡ l.fn.me.parts
