use Rattle.std.proofs.Common.{ℕ, ◌<◌, ◌≤◌, Some, refl, sym, ap, subst, ◌∙◌}
use Rattle.std.proofs.lemmas.Result.{err_from_is_err_and}
use Rattle.trace_lines.specs.Lines as lines
use Rattle.trace_lines.specs.Seen.{seen_instruction}
use Rattle.trace_lines.specs.declared.faults.Fault.TheVariants as fault
use Rattle.store_trace.specs.OpenStores.{seen}
use Rattle.store_trace.proofs.OpenStores.{get_missing, get_unbound, get_found, del_unbound, del_found, pull_missing, pull_found, sweep_missing, sweep_found, drain_found, worker_there, worker_missing, class_there, class_missing, past_fault, past_stands, not_past, others_not_past}
use Rattle.store_trace.proofs.open_store.OpenStore.add_task.Goals as goal
use Rattle.store_trace.proofs.open_store.OpenStore.add_task.Goals.{in-Del+in_ok-find_item-in-Del, in-Pull+in_ok-find_class-in-Pull, in-Sweep+in_ok-find_class-in-Sweep, in-Drain}

pub returns-in_err-find_worker-in-Get-clause-fault : goal.returns-in_err-find_worker-in-Get-clause-fault
returns-in_err-find_worker-in-Get-clause-fault g c =
    let p = err_from_is_err_and c.from_residual.result c.from_residual.ensures.1 in
    rw (p.1, p.2) (past_fault (seen c.args.self.now) c.args.now (seen_instruction c.args.instruction) (lines.Get c.in-Get.worker c.in-Get.name.now) (Some fault.Worker) (ap seen_instruction c.in-Get.is) c.requires.past refl (get_missing (seen c.args.self.now) c.in-Get.worker c.args.now c.in-Get.name.now (worker_missing c.args.self.now.store c.in-Get.worker (subst (λ (n : ℕ). n ≤ c.in-Get.worker) c.requires.shape.workers c.in_err-find_worker-in-Get.ensures.none.1))) ∙ ap Some (sym c.in_err-find_worker-in-Get.ensures.none.0))

pub returns-in_err-id-in-Get-clause-fault : goal.returns-in_err-id-in-Get-clause-fault
returns-in_err-id-in-Get-clause-fault g c =
    let p = err_from_is_err_and c.from_residual-in_err-id-in-Get.result c.from_residual-in_err-id-in-Get.ensures.1 in
    rw (p.1, p.2) (past_fault (seen c.args.self.now) c.args.now (seen_instruction c.args.instruction) (lines.Get c.in-Get.worker c.in-Get.name.now) (Some fault.Unbound) (ap seen_instruction c.in-Get.is) c.requires.past refl (get_unbound (seen c.args.self.now) c.in-Get.worker c.args.now c.in-Get.name.now (worker_there c.args.self.now.store c.in-Get.worker (subst (λ (n : ℕ). c.in-Get.worker < n) c.requires.shape.workers c.in_ok-find_worker-in-Get.ensures.found)) c.in_err-id-in-Get.ensures.none.1) ∙ ap Some (sym c.in_err-id-in-Get.ensures.none.0))

pub returns-in-Get-clause-passes : goal.returns-in-Get-clause-passes
returns-in-Get-clause-passes g c = past_stands (seen c.args.self.now) c.args.now (seen_instruction c.args.instruction) (lines.Get c.in-Get.worker c.in-Get.name.now) (ap seen_instruction c.in-Get.is) c.requires.past refl (get_found (seen c.args.self.now) c.in-Get.worker c.args.now c.in-Get.name.now c.in_ok-id-in-Get.id (worker_there c.args.self.now.store c.in-Get.worker (subst (λ (n : ℕ). c.in-Get.worker < n) c.requires.shape.workers c.in_ok-find_worker-in-Get.ensures.found)) c.in_ok-id-in-Get.ensures.found) refl

pub returns-in_err-find_item-in-Del-clause-fault : goal.returns-in_err-find_item-in-Del-clause-fault
returns-in_err-find_item-in-Del-clause-fault g c =
    let p = err_from_is_err_and c.from_residual-in_err-find_item-in-Del.result c.from_residual-in_err-find_item-in-Del.ensures.1 in
    rw (p.1, p.2) (past_fault (seen c.args.self.now) c.args.now (seen_instruction c.args.instruction) (lines.Del c.in-Del.name.now) (Some fault.Unbound) (ap seen_instruction c.in-Del.is) c.requires.past refl (del_unbound (seen c.args.self.now) c.in-Del.name.now c.in_err-find_item-in-Del.ensures.none.1) ∙ ap Some (sym c.in_err-find_item-in-Del.ensures.none.0))

pub returns-in_err-find_class-in-Pull-clause-fault : goal.returns-in_err-find_class-in-Pull-clause-fault
returns-in_err-find_class-in-Pull-clause-fault g c =
    let p = err_from_is_err_and c.from_residual-in_err-find_class-in-Pull.result c.from_residual-in_err-find_class-in-Pull.ensures.1 in
    rw (p.1, p.2) (past_fault (seen c.args.self.now) c.args.now (seen_instruction c.args.instruction) (lines.Pull c.in-Pull.class c.in-Pull.tail) (Some fault.Class) (ap seen_instruction c.in-Pull.is) c.requires.past refl (pull_missing (seen c.args.self.now) c.in-Pull.class c.in-Pull.tail (class_missing c.args.self.now.store c.in-Pull.class (subst (λ (n : ℕ). n ≤ c.in-Pull.class) c.requires.shape.classes c.in_err-find_class-in-Pull.ensures.none.1))) ∙ ap Some (sym c.in_err-find_class-in-Pull.ensures.none.0))

pub returns-in_err-find_class-in-Sweep-clause-fault : goal.returns-in_err-find_class-in-Sweep-clause-fault
returns-in_err-find_class-in-Sweep-clause-fault g c =
    let p = err_from_is_err_and c.from_residual-in_err-find_class-in-Sweep.result c.from_residual-in_err-find_class-in-Sweep.ensures.1 in
    rw (p.1, p.2) (past_fault (seen c.args.self.now) c.args.now (seen_instruction c.args.instruction) (lines.Sweep c.in-Sweep.class) (Some fault.Class) (ap seen_instruction c.in-Sweep.is) c.requires.past refl (sweep_missing (seen c.args.self.now) c.in-Sweep.class (class_missing c.args.self.now.store c.in-Sweep.class (subst (λ (n : ℕ). n ≤ c.in-Sweep.class) c.requires.shape.classes c.in_err-find_class-in-Sweep.ensures.none.1))) ∙ ap Some (sym c.in_err-find_class-in-Sweep.ensures.none.0))

pub returns-in_default : goal.returns-in_default
returns-in_default g c = record {
  count = c.requires.gets;
  added = tt;
  fault = not_past (seen c.args.self.now) c.args.now (seen_instruction c.args.instruction) c.requires.past
      (others_not_past c.args.instruction c.in_default.not-Get c.in_default.not-Del c.in_default.not-Pull c.in_default.not-Sweep c.in_default.not-Drain);
  passes = tt;
}

pub returns-clause-passes : goal.returns-clause-passes
returns-clause-passes g c = elim c.match-instruction.branch [
  | in-Del+in_ok-find_item-in-Del w ↦ past_stands (seen c.args.self.now) c.args.now (seen_instruction c.args.instruction) (lines.Del w.in-Del.name.now) (ap seen_instruction w.in-Del.is) c.requires.past refl (del_found (seen c.args.self.now) w.in-Del.name.now w.in_ok-find_item-in-Del.field-0 w.in_ok-find_item-in-Del.ensures.found) refl
  | in-Pull+in_ok-find_class-in-Pull w ↦ past_stands (seen c.args.self.now) c.args.now (seen_instruction c.args.instruction) (lines.Pull w.in-Pull.class w.in-Pull.tail) (ap seen_instruction w.in-Pull.is) c.requires.past refl (pull_found (seen c.args.self.now) w.in-Pull.class w.in-Pull.tail (class_there c.args.self.now.store w.in-Pull.class (subst (λ (n : ℕ). w.in-Pull.class < n) c.requires.shape.classes w.in_ok-find_class-in-Pull.ensures.found))) refl
  | in-Sweep+in_ok-find_class-in-Sweep w ↦ past_stands (seen c.args.self.now) c.args.now (seen_instruction c.args.instruction) (lines.Sweep w.in-Sweep.class) (ap seen_instruction w.in-Sweep.is) c.requires.past refl (sweep_found (seen c.args.self.now) w.in-Sweep.class (class_there c.args.self.now.store w.in-Sweep.class (subst (λ (n : ℕ). w.in-Sweep.class < n) c.requires.shape.classes w.in_ok-find_class-in-Sweep.ensures.found))) refl
  | in-Drain w ↦ past_stands (seen c.args.self.now) c.args.now (seen_instruction c.args.instruction) lines.Drain (ap seen_instruction w.in-Drain.is) c.requires.past refl (drain_found (seen c.args.self.now) c.args.now) refl
]
