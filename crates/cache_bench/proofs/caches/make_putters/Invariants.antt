use Rattle.std.proofs.Common.{◌≡◌, ◌+◌}
use Rattle.cache_bench.proofs.caches.make_putters.Given as goal

-- each thread's caller took one part
abbrev pub invariant-loop-thread : goal.invariant-loop-thread
invariant-loop-thread g l = l.me.parts + l.thread ≡ l.fn.me.parts
