use Rattle.std.proofs.Common.{false, ap, length, arith, refl}
use Rattle.model_state.specs.State.{new_worker}
use Rattle.model_state.specs.Workers.{worker_view}
use Rattle.bump_rules.proofs.Updates.{rewritten}
use Rattle.model_state.proofs.workers.Counts.{both_still}
use Rattle.model_state.proofs.workers.Workers.close.Goals as goal

pub returns : goal.returns
returns c = rw (← c.self.view_is) (rewritten worker_view (λ v. record v {
  is_open = false;
}) c.self.inside.all.items c.args.worker c.index_mut-worker.result.now _ new_worker (omega (
  arith,
  c.requires,
  ap length c.self.view_is,
)) c.index_mut-worker.ensures.value refl)

pub invariant_of-self : goal.invariant_of-self
invariant_of-self c = both_still c.self.inside.all.items c.args.worker c.index_mut-worker.result.now _ (omega (
  arith,
  c.requires,
  ap length c.self.view_is,
)) c.index_mut-worker.ensures.value c.self.inside.not_idle
    c.self.inside.applying c.self.invariant refl refl
