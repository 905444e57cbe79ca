use Rattle.std.proofs.Common.{List, [], ◌∷◌, ◌++◌, ap, length, arith, refl, false}
use Rattle.bump_rules.specs.declared.bumps.AppliedBump.{AppliedBump}
use Rattle.bump_rules.specs.declared.lanes.LaneStage.TheVariants.{Empty}
use Rattle.model_state.specs.State.{new_worker}
use Rattle.model_state.specs.Workers.{worker_view, is_applying}
use Rattle.bump_rules.proofs.Updates.{rewritten, unchanged, on_err}
use Rattle.model_state.proofs.workers.Counts.{counted_in, both_still, lane_anew}
use Rattle.model_state.proofs.workers.Workers.push_applied.Goals as goal

pub returns-clause-ok : goal.returns-clause-ok
returns-clause-ok c = rw (← c.self.view_is) (rewritten worker_view
    (λ v. record v { lane = Empty; applied = v.applied ++ c.args.applied ∷ [] }) c.self.inside.all.items c.args.worker
    c.index_mut-worker.result.now _ new_worker (omega (
      arith,
      c.requires,
      ap length c.self.view_is,
    )) c.index_mut-worker.ensures.value
    (ap (λ (bs : List AppliedBump). record (worker_view c.index_mut-worker.result.now) {
      lane = Empty;
      applied = bs;
    }) c.in_ok-push.ensures.items))

pub returns-in_err-push-clause-err : goal.returns-in_err-push-clause-err
returns-in_err-push-clause-err c = rw (← c.self.view_is) (on_err c.from_residual.result
    (unchanged worker_view c.self.inside.all.items c.args.worker c.index_mut-worker.result.now _ (omega (
      arith,
      c.requires,
      ap length c.self.view_is,
    )) c.index_mut-worker.ensures.value
    (ap (λ (bs : List AppliedBump). record (worker_view c.index_mut-worker.result.now) {
      applied = bs;
    }) c.in_err-push.ensures.items)))

pub invariant_of-self : goal.invariant_of-self
invariant_of-self c = both_still c.self.inside.all.items c.args.worker c.index_mut-worker.result.now _ (omega (
  arith,
  c.requires,
  ap length c.self.view_is,
)) c.index_mut-worker.ensures.value c.self.inside.not_idle
    c.self.inside.applying c.self.invariant refl refl

pub recounted-self-inside-requires-clause-counted : goal.recounted-self-inside-requires-clause-counted
recounted-self-inside-requires-clause-counted c =
    counted_in is_applying c.self.inside.all.items c.args.worker c.index_mut-worker.result.now (omega (
      arith,
      c.requires,
      ap length c.self.view_is,
    )) c.index_mut-worker.ensures.value c.self.inside.applying
    c.self.invariant.applying c.self.invariant.few c.is_applying.result c.is_applying.ensures

pub invariant_of-self-2 : goal.invariant_of-self-2
invariant_of-self-2 c = lane_anew c.self.inside.all.items c.args.worker c.index_mut-worker.result.now _ (omega (
  arith,
  c.requires,
  ap length c.self.view_is,
)) c.index_mut-worker.ensures.value
    c.self.inside.not_idle c.self.inside.applying c.self.invariant c.recounted-self-inside.result c.is_applying.result
    false c.is_applying.ensures refl c.recounted-self-inside.ensures refl
