use Rattle.std.proofs.Common.{List, [], ◌∷◌, ◌++◌, take, ap, ap₂, ◌∙◌, length, arith, refl, not}
use Rattle.std.proofs.lemmas.List.{take-append-le}
use Rattle.bump_rules.specs.declared.items.ItemId.{ItemId}
use Rattle.model_state.specs.State.{new_worker}
use Rattle.model_state.specs.Workers.{worker_view, is_not_idle}
use Rattle.bump_rules.proofs.Updates.{rewritten, unchanged, on_err}
use Rattle.model_state.proofs.workers.Counts.{counted_in, counted_few, both_still, hand_anew}
use Rattle.model_state.proofs.workers.Workers.queue.Goals as goal

pub returns-clause-ok : goal.returns-clause-ok
returns-clause-ok c = rw (← c.self.view_is) (rewritten worker_view
    (λ v. record v { hand = c.args.hand; accounts = c.args.accounts; sent = v.sent ++ c.args.life ∷ [] })
    c.self.inside.all.items c.args.worker c.index_mut-worker.result.now _ new_worker (omega (
      arith,
      c.requires,
      ap length c.self.view_is,
    )) c.index_mut-worker.ensures.value
    (ap₂ (λ (ls rs : List ItemId). record (worker_view c.index_mut-worker.result.now) {
      hand = c.args.hand;
      accounts = c.args.accounts;
      sent = ls;
      received = rs;
    })
    c.in_ok-push.ensures.items (ap (take c.index_mut-worker.result.now.received) c.in_ok-push.ensures.items
    ∙ take-append-le c.index_mut-worker.result.now.received c.index_mut-worker.result.now.sent.items
    (c.args.life ∷ []) c.index_mut-worker.result.now.received_sent)))

pub returns-in_err-push-clause-err : goal.returns-in_err-push-clause-err
returns-in_err-push-clause-err c = rw (← c.self.view_is) (on_err c.from_residual.result
    (unchanged worker_view c.self.inside.all.items c.args.worker c.index_mut-worker.result.now _ (omega (
      arith,
      c.requires,
      ap length c.self.view_is,
    )) c.index_mut-worker.ensures.value
    (ap (λ (ls : List ItemId). record (worker_view c.index_mut-worker.result.now) {
      sent = ls;
      received = take c.index_mut-worker.result.now.received ls;
    }) c.in_err-push.ensures.items)))

pub invariant_of-self : goal.invariant_of-self
invariant_of-self c = both_still c.self.inside.all.items c.args.worker c.index_mut-worker.result.now _ (omega (
  arith,
  c.requires,
  ap length c.self.view_is,
)) c.index_mut-worker.ensures.value c.self.inside.not_idle
    c.self.inside.applying c.self.invariant refl refl

pub recounted-self-inside-requires-clause-counted : goal.recounted-self-inside-requires-clause-counted
recounted-self-inside-requires-clause-counted c =
    counted_in is_not_idle c.self.inside.all.items c.args.worker c.index_mut-worker.result.now (omega (
      arith,
      c.requires,
      ap length c.self.view_is,
    )) c.index_mut-worker.ensures.value c.self.inside.not_idle
    c.self.invariant.not_idle c.self.invariant.few (not c.is_idle-was_not_idle.result)
    (ap not c.is_idle-was_not_idle.ensures)

pub recounted-self-inside-requires-clause-few : goal.recounted-self-inside-requires-clause-few
recounted-self-inside-requires-clause-few c =
    counted_few is_not_idle c.self.inside.all.items c.args.worker c.index_mut-worker.result.now (omega (
      arith,
      c.requires,
      ap length c.self.view_is,
    )) c.index_mut-worker.ensures.value c.self.inside.not_idle
    c.self.invariant.not_idle c.self.invariant.few (not c.is_idle-was_not_idle.result)
    (ap not c.is_idle-was_not_idle.ensures) _

pub invariant_of-self-2 : goal.invariant_of-self-2
invariant_of-self-2 c = hand_anew c.self.inside.all.items c.args.worker c.index_mut-worker.result.now _ (omega (
  arith,
  c.requires,
  ap length c.self.view_is,
)) c.index_mut-worker.ensures.value
    c.self.inside.not_idle c.self.inside.applying c.self.invariant c.recounted-self-inside.result
    (not c.is_idle-was_not_idle.result) (not c.is_idle.result) (ap not c.is_idle-was_not_idle.ensures)
    (ap not c.is_idle.ensures) c.recounted-self-inside.ensures refl
