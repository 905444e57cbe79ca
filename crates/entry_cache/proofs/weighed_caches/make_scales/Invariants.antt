use Rattle.std.proofs.Common.{◌≡◌, vec_len}
use Rattle.entry_cache.proofs.weighed_caches.make_scales.Given as goal

-- so many parts have one
abbrev pub invariant-loop : goal.invariant-loop
invariant-loop l = vec_len l.scales ≡ l.counter
