use Rattle.std.proofs.Common.{◌<◌}
use Rattle.bump_cache.proofs.caches.Cache.wait_for_part.Given as goal

abbrev pub invariant-loop : goal.invariant-loop
invariant-loop g l = l.at < l.self.parts
