use Rattle.std.proofs.Common.{refl, ap, arith, length}
use Rattle.model_state.specs.State.{new_worker}
use Rattle.model_state.specs.Workers.{worker_view, is_applying}
use Rattle.bump_rules.proofs.Updates.{rewritten}
use Rattle.model_state.proofs.workers.Counts.{counted_in, counted_few, lane_anew}
use Rattle.model_state.proofs.workers.Workers.set_lane.Goals as goal

pub returns : goal.returns
returns c = rw (← c.self.view_is) (rewritten worker_view (λ v. record v {
  lane = c.args.lane;
}) c.self.inside.all.items c.args.worker c.index_mut-worker.result.now _ new_worker
    (omega (arith, c.requires, ap length c.self.view_is)) c.index_mut-worker.ensures.value refl)

pub recounted-self-inside-requires-clause-counted : goal.recounted-self-inside-requires-clause-counted
recounted-self-inside-requires-clause-counted c =
    counted_in is_applying c.self.inside.all.items c.args.worker c.index_mut-worker.result.now (omega (
      arith,
      c.requires,
      ap length c.self.view_is,
    )) c.index_mut-worker.ensures.value c.self.inside.applying
    c.self.invariant.applying c.self.invariant.few c.is_applying.result c.is_applying.ensures

pub recounted-self-inside-requires-clause-few : goal.recounted-self-inside-requires-clause-few
recounted-self-inside-requires-clause-few c =
    counted_few is_applying c.self.inside.all.items c.args.worker c.index_mut-worker.result.now (omega (
      arith,
      c.requires,
      ap length c.self.view_is,
    )) c.index_mut-worker.ensures.value c.self.inside.applying
    c.self.invariant.applying c.self.invariant.few c.is_applying.result c.is_applying.ensures _

pub invariant_of-self : goal.invariant_of-self
invariant_of-self c = lane_anew c.self.inside.all.items c.args.worker c.index_mut-worker.result.now _ (omega (
  arith,
  c.requires,
  ap length c.self.view_is,
)) c.index_mut-worker.ensures.value
    c.self.inside.not_idle c.self.inside.applying c.self.invariant c.recounted-self-inside.result c.is_applying.result
    c.is_applying-2.result c.is_applying.ensures c.is_applying-2.ensures c.recounted-self-inside.ensures refl
