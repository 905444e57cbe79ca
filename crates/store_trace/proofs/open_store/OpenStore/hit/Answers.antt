use Rattle.std.proofs.Common.{Some, sym, ap, ◌∙◌}
use Rattle.std.proofs.lemmas.Result.{err_from_is_err_and}
use Rattle.store_trace.specs.OpenStores.{seen}
use Rattle.store_trace.proofs.EndedLines.{line_behind, hit_ends}
use Rattle.store_trace.proofs.OpenStores.{hit_found, hit_unbound, hit_missing, worker_there, worker_missing}
use Rattle.std.proofs.Common.{ℕ, ◌<◌, ◌≤◌, subst}
use Rattle.store_trace.proofs.open_store.OpenStore.hit.Goals as goal

pub returns-in_err-find_worker-clause-fault : goal.returns-in_err-find_worker-clause-fault
returns-in_err-find_worker-clause-fault g c =
    let p = err_from_is_err_and c.from_residual.result c.from_residual.ensures.1 in
    rw (p.1, p.2) (hit_missing (seen c.args.self.now) c.args.worker c.args.now c.args.hold_name.now (worker_missing c.args.self.now.store c.args.worker (subst (λ (n : ℕ). n ≤ c.args.worker) c.requires.shape.workers c.in_err-find_worker.ensures.none.1)) ∙ ap Some (sym c.in_err-find_worker.ensures.none.0))

pub returns-then-not-has-clause-fault : goal.returns-then-not-has-clause-fault
returns-then-not-has-clause-fault g c = hit_unbound (seen c.args.self.now) c.args.worker c.args.now c.args.hold_name.now (worker_there c.args.self.now.store c.args.worker (subst (λ (n : ℕ). c.args.worker < n) c.requires.shape.workers c.in_ok-find_worker.ensures.found)) (sym c.has.ensures ∙ c.if-not-has.true)

pub returns-clause-fault : goal.returns-clause-fault
returns-clause-fault g c = hit_found (seen c.args.self.now) c.args.worker c.args.now c.args.hold_name.now (worker_there c.args.self.now.store c.args.worker (subst (λ (n : ℕ). c.args.worker < n) c.requires.shape.workers c.in_ok-find_worker.ensures.found)) (sym c.has.ensures ∙ c.if-not-has.false)

pub returns-clause-lines : goal.returns-clause-lines
returns-clause-lines g c = λ before. line_behind c.args.out.now.items _ c.put_hit.new.out.items (hit_ends c.args.worker c.args.hold_name.now c.match-pair.answer) c.in_ok-put_hit.ensures
