use Rattle.std.proofs.Common.{◌≡◌, ℕ}
use Rattle.bump_cache.specs.Tending.{TendsAsTold}
use Rattle.bump_cache.proofs.caches.Cache.tend_until.Given as goal

-- all parts were tended so many times, as the clock told
abbrev pub invariant-loop : goal.invariant-loop
invariant-loop g l = record {
  callable : goal.F-IsAlwaysCallable g l.clock;
  tends : (count : ℕ) × TendsAsTold (λ c told c'. goal.F-step g c told c') l.self.parts count l.fn.clock l.fn.me l.clock
      l.me;
  parts : l.me.parts ≡ l.fn.me.parts;
}
