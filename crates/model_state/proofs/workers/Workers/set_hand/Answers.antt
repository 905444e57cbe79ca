use Rattle.std.proofs.Common.{length, not, refl, ap, arith}
use Rattle.model_state.specs.State.{new_worker}
use Rattle.model_state.specs.Workers.{worker_view, is_not_idle}
use Rattle.bump_rules.proofs.Updates.{rewritten}
use Rattle.model_state.proofs.workers.Counts.{counted_in, counted_few, hand_anew}
use Rattle.model_state.proofs.workers.Workers.set_hand.Goals as goal

pub returns : goal.returns
returns c = rw (← c.self.view_is) (rewritten worker_view (λ v. record v {
  hand = c.args.hand;
  accounts =
      c.args.accounts;
}) c.self.inside.all.items c.args.worker c.index_mut-worker.result.now _ new_worker (omega (
  arith,
  c.requires,
  ap length c.self.view_is,
)) c.index_mut-worker.ensures.value refl)

pub recounted-self-inside-requires-clause-counted : goal.recounted-self-inside-requires-clause-counted
recounted-self-inside-requires-clause-counted c =
    counted_in is_not_idle c.self.inside.all.items c.args.worker c.index_mut-worker.result.now (omega (
      arith,
      c.requires,
      ap length c.self.view_is,
    )) c.index_mut-worker.ensures.value c.self.inside.not_idle
    c.self.invariant.not_idle c.self.invariant.few (not c.is_idle.result) (ap not c.is_idle.ensures)

pub recounted-self-inside-requires-clause-few : goal.recounted-self-inside-requires-clause-few
recounted-self-inside-requires-clause-few c =
    counted_few is_not_idle c.self.inside.all.items c.args.worker c.index_mut-worker.result.now (omega (
      arith,
      c.requires,
      ap length c.self.view_is,
    )) c.index_mut-worker.ensures.value c.self.inside.not_idle
    c.self.invariant.not_idle c.self.invariant.few (not c.is_idle.result) (ap not c.is_idle.ensures) _

pub invariant_of-self : goal.invariant_of-self
invariant_of-self c = hand_anew c.self.inside.all.items c.args.worker c.index_mut-worker.result.now _ (omega (
  arith,
  c.requires,
  ap length c.self.view_is,
)) c.index_mut-worker.ensures.value
    c.self.inside.not_idle c.self.inside.applying c.self.invariant c.recounted-self-inside.result
    (not c.is_idle.result) (not c.is_idle-2.result) (ap not c.is_idle.ensures)
    (ap not c.is_idle-2.ensures) c.recounted-self-inside.ensures refl
