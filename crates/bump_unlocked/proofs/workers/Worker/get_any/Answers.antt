use Rattle.std.proofs.Common.{Err, sym, ap, ◌∙◌, subst}
use Rattle.bump_readers.specs.declared.views.WorkerView.{WorkerView}
use Rattle.bump_steps.specs.declared.refusals.AnyRefusal.{AnyRefusal}
use Rattle.bump_steps.specs.Tries.{of_any, last_found, asked_life, asked_refusal, worker_after_asked}
use Rattle.bump_unlocked.specs.Gets.{get_any_refusal}
use Rattle.bump_unlocked.specs.StepCounts.{MakesAtMost}
use Rattle.bump_unlocked.specs.Workers.{WorkerState}
use Rattle.bump_unlocked.proofs.GetLemmas.{got_any_hold, got_any_none}
use Rattle.bump_unlocked.proofs.StepLemmas.{get_any_steps}
use Rattle.bump_unlocked.proofs.workers.Worker.get_any.Goals.{in-Ok, in-Err-Gone, in-Err-RefsFull, in-Err-Busy}
use Rattle.bump_unlocked.proofs.workers.Worker.get_any.Goals as goal

pub returns-clause-few : goal.returns-clause-few
returns-clause-few g c =
    let after = c.take_any.new.worker.sheet.steps in
    subst (λ (before : WorkerState). MakesAtMost 1 8 0 before.sheet.steps after) c.self.view_is
    (get_any_steps _ _ _ _ _ c.take_any.ensures.took)

pub returns-clause-got : goal.returns-clause-got
returns-clause-got g c = λ near.
    let t = c.take_any.ensures.took in
    let limit = c.args.heads.now.refs_limit in
    let chunk = c.args.chunk in
    let l = asked_life of_any chunk t.0 t.1 in
    let last = last_found t.0 t.1 in
    let o = asked_refusal limit of_any t.0 t.1 in (
      t.0,
      t.1,
      record {
        found = t.2.found;
        row = t.2.row;
        steps = ap (λ (v : WorkerView). record { sheet = v.sheet; sender = c.self.inside.sender }) t.2.steps
            ∙ ap (λ (s : WorkerState). record s {
              sheet = worker_after_asked limit of_any chunk t.0 t.1 t.2.row s.sheet;
            }) c.self.view_is;
        answer = elim c.match-take_any.branch [
          | in-Ok w ↦ w.result-is ∙ got_any_hold l t.2.row last o _ _ (sym w.in-Ok.is ∙ t.2.answer)
          | in-Err-Gone w ↦ w.result-is ∙ ap (λ (r : AnyRefusal). Err (get_any_refusal r)) (sym w.in-Err-Gone.field-0-is)
              ∙ got_any_none l t.2.row last o _ (sym w.in-Err-Gone.is ∙ t.2.answer)
          | in-Err-RefsFull w ↦ w.result-is ∙ ap (λ (r : AnyRefusal). Err (get_any_refusal r)) (sym w.in-Err-RefsFull.field-0-is)
              ∙ got_any_none l t.2.row last o _ (sym w.in-Err-RefsFull.is ∙ t.2.answer)
          | in-Err-Busy w ↦ w.result-is ∙ ap (λ (r : AnyRefusal). Err (get_any_refusal r)) (sym w.in-Err-Busy.field-0-is)
              ∙ got_any_none l t.2.row last o _ (sym w.in-Err-Busy.is ∙ t.2.answer)
        ];
      },
    )
