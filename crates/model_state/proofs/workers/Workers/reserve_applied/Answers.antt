use Rattle.std.proofs.Common.{List, ap, length, arith, refl}
use Rattle.bump_rules.specs.declared.bumps.AppliedBump.{AppliedBump}
use Rattle.model_state.specs.Workers.{worker_view}
use Rattle.bump_rules.proofs.Updates.{unchanged}
use Rattle.model_state.proofs.workers.Counts.{both_still}
use Rattle.model_state.proofs.workers.Workers.reserve_applied.Goals as goal

pub returns-clause-workers : goal.returns-clause-workers
returns-clause-workers c = rw (← c.self.view_is)
    (unchanged worker_view c.self.inside.all.items c.args.worker c.index_mut-worker.result.now _ (omega (
      arith,
      c.requires,
      ap length c.self.view_is,
    )) c.index_mut-worker.ensures.value
    (ap (λ (bs : List AppliedBump). record (worker_view c.index_mut-worker.result.now) {
      applied = bs;
    }) c.in_ok-reserve.ensures.items))

pub returns-in_err-reserve-clause-workers : goal.returns-in_err-reserve-clause-workers
returns-in_err-reserve-clause-workers c = rw (← c.self.view_is)
    (unchanged worker_view c.self.inside.all.items c.args.worker c.index_mut-worker.result.now _ (omega (
      arith,
      c.requires,
      ap length c.self.view_is,
    )) c.index_mut-worker.ensures.value
    (ap (λ (bs : List AppliedBump). record (worker_view c.index_mut-worker.result.now) {
      applied = bs;
    }) c.in_err-reserve.ensures.items))

pub invariant_of-self : goal.invariant_of-self
invariant_of-self c = both_still c.self.inside.all.items c.args.worker c.index_mut-worker.result.now _ (omega (
  arith,
  c.requires,
  ap length c.self.view_is,
)) c.index_mut-worker.ensures.value c.self.inside.not_idle
    c.self.inside.applying c.self.invariant refl refl

pub invariant_of-self-2 : goal.invariant_of-self-2
invariant_of-self-2 c = both_still c.self.inside.all.items c.args.worker c.index_mut-worker.result.now _ (omega (
  arith,
  c.requires,
  ap length c.self.view_is,
)) c.index_mut-worker.ensures.value c.self.inside.not_idle
    c.self.inside.applying c.self.invariant refl refl
