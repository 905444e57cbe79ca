use Rattle.std.proofs.Common.{of_calls, suc, zero, refl, subst, ◌∙◌}
use Rattle.bump_cache.proofs.caches.Cache.tend_each.Goals as goal

pub loop-init : goal.loop-init
loop-init g c = record { callable = c.requires.callable; tends = (zero, (refl, refl)); parts = refl }

pub loop-preserved : goal.loop-preserved
loop-preserved g c =
    let so_far = c.loop.invariant in let did = c.tend.ensures in record {
      callable = search of_calls;
      tends = (
        suc so_far.tends.0,
        (
          c.loop.clock,
          c.loop.me,
          c.in-Some-clock.time,
          so_far.tends.1,
          subst (λ told. goal.F-step g c.loop.clock told c.clock.new.self) c.in-Some-clock.is c.clock.ensures,
          did.tends,
        ),
      );
      parts = did.parts ∙ so_far.parts;
    }

pub returns-in_default-clause-tends : goal.returns-in_default-clause-tends
returns-in_default-clause-tends g c = let so_far = c.loop.invariant in record {
  count = so_far.tends.0;
  told = c.loop.clock;
  tends = so_far.tends.1;
  over = subst (λ told. goal.F-step g c.loop.clock told c.clock.new.self) c.in_default.is c.clock.ensures;
}
