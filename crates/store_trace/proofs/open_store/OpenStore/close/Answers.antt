use Rattle.std.proofs.Common.{Some, ℕ, ◌<◌, ◌≤◌, sym, ap, subst, ◌∙◌}
use Rattle.std.proofs.lemmas.Result.{err_from_is_err_and}
use Rattle.store_trace.specs.OpenStores.{seen}
use Rattle.store_trace.proofs.EndedLines.{line_behind, closed_ends}
use Rattle.store_trace.proofs.OpenStores.{close_found, close_missing, worker_there, worker_missing, fails_none}
use Rattle.store_trace.proofs.open_store.OpenStore.close.Goals as goal

pub returns-in_err-find_worker-clause-fault : goal.returns-in_err-find_worker-clause-fault
returns-in_err-find_worker-clause-fault g c =
    let p = err_from_is_err_and c.from_residual.result c.from_residual.ensures.1 in
    rw (p.1, p.2) (close_missing (seen c.args.self.now) c.args.worker c.args.now (worker_missing c.args.self.now.store c.args.worker (subst (λ (n : ℕ). n ≤ c.args.worker) c.requires.shape.workers c.in_err-find_worker.ensures.none.1)) ∙ ap Some (sym c.in_err-find_worker.ensures.none.0))

pub returns-in_err-settled-clause-fault : goal.returns-in_err-settled-clause-fault
returns-in_err-settled-clause-fault g c =
    let residual = c.from_residual-in_err-settled in
    let p = err_from_is_err_and residual.result residual.ensures.1 in
    rw (p.1, p.2) (fails_none c.in_err-settled.field-0.0 _ c.in_err-settled.ensures.err (close_found (seen c.args.self.now) c.args.worker c.args.now (worker_there c.args.self.now.store c.args.worker (subst (λ (n : ℕ). c.args.worker < n) c.requires.shape.workers c.in_ok-find_worker.ensures.found))))

pub returns-in_ok-put_close-in-Some-clause-fault : goal.returns-in_ok-put_close-in-Some-clause-fault
returns-in_ok-put_close-in-Some-clause-fault g c = close_found (seen c.args.self.now) c.args.worker c.args.now (worker_there c.args.self.now.store c.args.worker (subst (λ (n : ℕ). c.args.worker < n) c.requires.shape.workers c.in_ok-find_worker.ensures.found))

pub returns-in_ok-put_closed-in-None-clause-fault : goal.returns-in_ok-put_closed-in-None-clause-fault
returns-in_ok-put_closed-in-None-clause-fault g c = close_found (seen c.args.self.now) c.args.worker c.args.now (worker_there c.args.self.now.store c.args.worker (subst (λ (n : ℕ). c.args.worker < n) c.requires.shape.workers c.in_ok-find_worker.ensures.found))

pub returns-in_ok-put_closed-in-None-clause-lines : goal.returns-in_ok-put_closed-in-None-clause-lines
returns-in_ok-put_closed-in-None-clause-lines g c = λ before. line_behind c.close.new.out.items _ c.put_closed.new.out.items (closed_ends c.args.worker) c.in_ok-put_closed-in-None.ensures
