use Rattle.std.proofs.Common.{List, [], ◌∷◌, ◌++◌, ap, length, arith, refl}
use Rattle.bump_rules.specs.declared.items.ItemId.{ItemId}
use Rattle.model_state.specs.State.{new_worker}
use Rattle.model_state.specs.Workers.{worker_view}
use Rattle.bump_rules.proofs.Updates.{rewritten, unchanged, on_err}
use Rattle.model_state.proofs.workers.Counts.{both_still}
use Rattle.model_state.proofs.workers.Workers.push_first_hit.Goals as goal

pub returns-clause-ok : goal.returns-clause-ok
returns-clause-ok c = rw (← c.self.view_is) (rewritten worker_view (λ v. record v {
  first_hits = v.first_hits ++ c.args.life ∷ [];
}) c.self.inside.all.items c.args.worker
    c.index_mut-worker.result.now _ new_worker (omega (
      arith,
      c.requires,
      ap length c.self.view_is,
    )) c.index_mut-worker.ensures.value
    (ap (λ (ls : List ItemId). record (worker_view c.index_mut-worker.result.now) {
      first_hits = ls;
    }) c.in_ok-push.ensures.items))

pub returns-in_err-push-clause-err : goal.returns-in_err-push-clause-err
returns-in_err-push-clause-err c = rw (← c.self.view_is) (on_err c.from_residual.result
    (unchanged worker_view c.self.inside.all.items c.args.worker c.index_mut-worker.result.now _ (omega (
      arith,
      c.requires,
      ap length c.self.view_is,
    )) c.index_mut-worker.ensures.value
    (ap (λ (ls : List ItemId). record (worker_view c.index_mut-worker.result.now) {
      first_hits = ls;
    }) c.in_err-push.ensures.items)))

pub invariant_of-self : goal.invariant_of-self
invariant_of-self c = both_still c.self.inside.all.items c.args.worker c.index_mut-worker.result.now _ (omega (
  arith,
  c.requires,
  ap length c.self.view_is,
)) c.index_mut-worker.ensures.value c.self.inside.not_idle
    c.self.inside.applying c.self.invariant refl refl

pub invariant_of-self-2 : goal.invariant_of-self-2
invariant_of-self-2 c = both_still c.self.inside.all.items c.args.worker c.index_mut-worker.result.now _ (omega (
  arith,
  c.requires,
  ap length c.self.view_is,
)) c.index_mut-worker.ensures.value c.self.inside.not_idle
    c.self.inside.applying c.self.invariant refl refl
