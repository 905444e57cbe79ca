use Rattle.std.proofs.Common.{◌≡◌, ◌+◌}
use Rattle.bump_cache.specs.Visiting.{VisitsParts}
use Rattle.bump_cache.proofs.caches.Cache.for_each.Given as goal

-- so many parts were visited, by one call each
abbrev pub invariant-loop-part : goal.invariant-loop-part
invariant-loop-part g l = record {
  callable : goal.F-IsAlwaysCallable g l.visit;
  did : VisitsParts g.K.Packed.fits g.K.Packed.as_words g.V.Packed.fits g.V.Packed.as_words
      (λ from key value expires to. goal.F-step g from key value expires tt to) l.part l.now l.fn.visit l.visit l.fn.me
      l.me;
  calls : l.me.calls ≡ l.fn.me.calls + l.part;
  parts : l.me.parts ≡ l.fn.me.parts;
}
