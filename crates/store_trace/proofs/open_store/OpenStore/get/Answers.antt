use Rattle.std.proofs.Common.{Some, None, ℕ, ◌<◌, ◌≤◌, sym, ap, subst, ◌∙◌}
use Rattle.std.proofs.lemmas.Result.{err_from_is_err_and}
use Rattle.store_trace.specs.OpenStores.{seen}
use Rattle.store_trace.proofs.EndedLines.{line_behind, get_ends, get_held_ends, busy_get_ends}
use Rattle.store_trace.proofs.OpenStores.{get_found, get_unbound, get_missing, worker_there, worker_missing}
use Rattle.bump_rules.specs.declared.commands.Answer.TheVariants as answer
use Rattle.store_trace.proofs.open_store.OpenStore.get.Goals as goal

pub returns-in_err-find_worker-clause-fault : goal.returns-in_err-find_worker-clause-fault
returns-in_err-find_worker-clause-fault g c =
    let p = err_from_is_err_and c.from_residual.result c.from_residual.ensures.1 in
    rw (p.1, p.2) (get_missing (seen c.args.self.now) c.args.worker c.args.now c.args.name.now (worker_missing c.args.self.now.store c.args.worker (subst (λ (n : ℕ). n ≤ c.args.worker) c.requires.shape.workers c.in_err-find_worker.ensures.none.1)) ∙ ap Some (sym c.in_err-find_worker.ensures.none.0))

pub returns-in_default-clause-fault : goal.returns-in_default-clause-fault
returns-in_default-clause-fault g c = get_unbound (seen c.args.self.now) c.args.worker c.args.now c.args.name.now (worker_there c.args.self.now.store c.args.worker (subst (λ (n : ℕ). c.args.worker < n) c.requires.shape.workers c.in_ok-find_worker.ensures.found)) (sym c.get.ensures ∙ c.in_default.is)

pub returns-in_default-worker-clause-fault : goal.returns-in_default-worker-clause-fault
returns-in_default-worker-clause-fault g c = get_found (seen c.args.self.now) c.args.worker c.args.now c.args.name.now c.in-Some.id (worker_there c.args.self.now.store c.args.worker (subst (λ (n : ℕ). c.args.worker < n) c.requires.shape.workers c.in_ok-find_worker.ensures.found)) (sym c.get.ensures ∙ c.in-Some.is)

pub returns-in_default-worker-clause-lines : goal.returns-in_default-worker-clause-lines
returns-in_default-worker-clause-lines g c = λ before. line_behind c.args.out.now.items _ c.put_get.new.out.items (get_ends c.args.worker c.args.name.now None) c.in_ok-put_get.ensures

pub returns-in_ok-put_get_held-in-Ok-clause-fault : goal.returns-in_ok-put_get_held-in-Ok-clause-fault
returns-in_ok-put_get_held-in-Ok-clause-fault g c = get_found (seen c.args.self.now) c.args.worker c.args.now c.args.name.now c.in-Some.id (worker_there c.args.self.now.store c.args.worker (subst (λ (n : ℕ). c.args.worker < n) c.requires.shape.workers c.in_ok-find_worker.ensures.found)) (sym c.get.ensures ∙ c.in-Some.is)

pub returns-in_ok-put_get_held-in-Ok-clause-lines : goal.returns-in_ok-put_get_held-in-Ok-clause-lines
returns-in_ok-put_get_held-in-Ok-clause-lines g c = λ before. line_behind c.args.out.now.items _ c.put_get_held.new.out.items (get_held_ends c.args.worker c.args.name.now (answer.Label c.in-Ok.label) (answer.Touched c.in-Ok.touch)) c.in_ok-put_get_held-in-Ok.ensures

pub returns-in_ok-put_get-in-Some-refused-clause-fault : goal.returns-in_ok-put_get-in-Some-refused-clause-fault
returns-in_ok-put_get-in-Some-refused-clause-fault g c = get_found (seen c.args.self.now) c.args.worker c.args.now c.args.name.now c.in-Some.id (worker_there c.args.self.now.store c.args.worker (subst (λ (n : ℕ). c.args.worker < n) c.requires.shape.workers c.in_ok-find_worker.ensures.found)) (sym c.get.ensures ∙ c.in-Some.is)

pub returns-in_ok-put_get-in-Some-refused-clause-lines : goal.returns-in_ok-put_get-in-Some-refused-clause-lines
returns-in_ok-put_get-in-Some-refused-clause-lines g c = λ before. line_behind c.args.out.now.items _ c.put_get-in-Some-refused.new.out.items (get_ends c.args.worker c.args.name.now (Some c.in-Some-refused.answer)) c.in_ok-put_get-in-Some-refused.ensures

pub returns-in_ok-put_get_busy-in-None-clause-fault : goal.returns-in_ok-put_get_busy-in-None-clause-fault
returns-in_ok-put_get_busy-in-None-clause-fault g c = get_found (seen c.args.self.now) c.args.worker c.args.now c.args.name.now c.in-Some.id (worker_there c.args.self.now.store c.args.worker (subst (λ (n : ℕ). c.args.worker < n) c.requires.shape.workers c.in_ok-find_worker.ensures.found)) (sym c.get.ensures ∙ c.in-Some.is)

pub returns-in_ok-put_get_busy-in-None-clause-lines : goal.returns-in_ok-put_get_busy-in-None-clause-lines
returns-in_ok-put_get_busy-in-None-clause-lines g c = λ before. line_behind c.args.out.now.items _ c.put_get_busy.new.out.items (busy_get_ends c.args.worker c.args.name.now) c.in_ok-put_get_busy-in-None.ensures
