use Rattle.std.proofs.Common.{List, [], ◌∷◌, ◌++◌, ap, ap₂, length, arith, sym, subst, refl, false, Some, ◌≡◌}
use Rattle.bump_rules.specs.declared.items.ItemId.{ItemId}
use Rattle.bump_rules.specs.declared.bumps.AppliedBump.{AppliedBump}
use Rattle.bump_rules.specs.declared.lanes.LaneStage.TheVariants.{Empty}
use Rattle.model_state.specs.Events.{next_bump}
use Rattle.model_state.specs.State.{new_worker}
use Rattle.model_state.specs.Workers.{worker_view, worker_view_at, is_applying}
use Rattle.bump_rules.proofs.Updates.{rewritten}
use Rattle.model_state.proofs.workers.Received.{next_received}
use Rattle.model_state.proofs.workers.Counts.{counted_in, lane_anew}
use Rattle.model_state.proofs.workers.Workers.finish_taken.Goals as goal

pub returns : goal.returns
returns c = rw (← c.self.view_is) (rewritten worker_view
    (λ v. record v {
      received = v.received ++ c.args.applied.life ∷ [];
      lane = Empty;
      applied = v.applied ++
          c.args.applied ∷ [];
    }) c.self.inside.all.items c.args.worker c.index_mut-worker.result.now _ new_worker
    (omega (arith, c.requires.worker, ap length c.self.view_is)) c.index_mut-worker.ensures.value
    (ap₂ (λ (rs : List ItemId) (bs : List AppliedBump). record (worker_view c.index_mut-worker.result.now) {
      received = rs;
      lane = Empty;
      applied = bs;
    })
    (next_received c.self.inside.all.items c.args.worker c.index_mut-worker.result.now c.args.applied.life
    (omega (arith, c.requires.worker, ap length c.self.view_is)) c.index_mut-worker.ensures.value
    (subst (λ xs. next_bump (worker_view_at xs c.args.worker) ≡ Some c.args.applied.life)
    (sym c.self.view_is) c.requires.next)).2 c.push_reserved.ensures.items))

pub recounted-self-inside-requires-clause-counted : goal.recounted-self-inside-requires-clause-counted
recounted-self-inside-requires-clause-counted c =
    counted_in is_applying c.self.inside.all.items c.args.worker c.index_mut-worker.result.now (omega (
      arith,
      c.requires.worker,
      ap length c.self.view_is,
    )) c.index_mut-worker.ensures.value c.self.inside.applying
    c.self.invariant.applying c.self.invariant.few c.is_applying.result c.is_applying.ensures

pub invariant_of-self : goal.invariant_of-self
invariant_of-self c = lane_anew c.self.inside.all.items c.args.worker c.index_mut-worker.result.now _ (omega (
  arith,
  c.requires.worker,
  ap length c.self.view_is,
)) c.index_mut-worker.ensures.value
    c.self.inside.not_idle c.self.inside.applying c.self.invariant c.recounted-self-inside.result c.is_applying.result
    false c.is_applying.ensures refl c.recounted-self-inside.ensures refl
