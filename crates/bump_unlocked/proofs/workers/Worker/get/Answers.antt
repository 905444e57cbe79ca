use Rattle.std.proofs.Common.{Err, sym, ap, ◌∙◌, subst}
use Rattle.bump_readers.specs.declared.views.WorkerView.{WorkerView}
use Rattle.bump_steps.specs.declared.refusals.TakeRefusal.{TakeRefusal}
use Rattle.bump_steps.specs.Tries.{of_life, refusal_of, worker_after_asked}
use Rattle.bump_unlocked.specs.Gets.{get_refusal}
use Rattle.bump_unlocked.specs.StepCounts.{MakesAtMost}
use Rattle.bump_unlocked.specs.Workers.{WorkerState}
use Rattle.bump_unlocked.proofs.GetLemmas.{got_hold, got_none}
use Rattle.bump_unlocked.proofs.StepLemmas.{get_steps}
use Rattle.bump_unlocked.proofs.workers.Worker.get.Goals.{in-Ok, in-Err-Stale, in-Err-RefsFull, in-Err-Busy}
use Rattle.bump_unlocked.proofs.workers.Worker.get.Goals as goal

pub returns-clause-few : goal.returns-clause-few
returns-clause-few g c =
    let after = c.take.new.worker.sheet.steps in
    subst (λ (before : WorkerState). MakesAtMost 1 8 0 before.sheet.steps after) c.self.view_is
    (get_steps _ _ _ _ _ c.take.ensures.took)

pub returns-clause-got : goal.returns-clause-got
returns-clause-got g c = λ near.
    let t = c.take.ensures.took in
    let id = c.args.id in
    let o = refusal_of c.args.heads.now.refs_limit id t.0 t.1 in (
      t.0,
      t.1,
      record {
        found = t.2.found;
        row = t.2.row;
        steps = ap (λ (v : WorkerView). record { sheet = v.sheet; sender = c.self.inside.sender }) t.2.steps
            ∙ ap (λ (s : WorkerState). record s {
              sheet = worker_after_asked c.args.heads.now.refs_limit (of_life id) id.chunk t.0 t.1 t.2.row s.sheet;
            }) c.self.view_is;
        answer = elim c.match-take.branch [
          | in-Ok w ↦ w.result-is ∙ got_hold id t.2.row o _ (sym w.in-Ok.is ∙ t.2.answer)
          | in-Err-Stale w ↦ w.result-is ∙ ap (λ (r : TakeRefusal). Err (get_refusal r)) (sym w.in-Err-Stale.field-0-is)
              ∙ got_none id t.2.row o _ (sym w.in-Err-Stale.is ∙ t.2.answer)
          | in-Err-RefsFull w ↦ w.result-is ∙ ap (λ (r : TakeRefusal). Err (get_refusal r)) (sym w.in-Err-RefsFull.field-0-is)
              ∙ got_none id t.2.row o _ (sym w.in-Err-RefsFull.is ∙ t.2.answer)
          | in-Err-Busy w ↦ w.result-is ∙ ap (λ (r : TakeRefusal). Err (get_refusal r)) (sym w.in-Err-Busy.field-0-is)
              ∙ got_none id t.2.row o _ (sym w.in-Err-Busy.is ∙ t.2.answer)
        ];
      },
    )
