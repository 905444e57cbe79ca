use Rattle.std.proofs.Common.{◌≡◌, ◌+◌}
use Rattle.bump_cache.specs.Tending.{ClearsParts}
use Rattle.bump_cache.proofs.caches.Cache.clear.Given as goal

-- so many parts had their turn, by one call each
abbrev pub invariant-loop-part : goal.invariant-loop-part
invariant-loop-part g l = record {
  did : ClearsParts l.part l.fn.me l.me;
  calls : l.me.calls ≡ l.fn.me.calls + l.part;
  parts : l.me.parts ≡ l.fn.me.parts;
}
