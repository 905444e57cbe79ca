use Rattle.std.proofs.Common.{sym, ◌∙◌, subst}
use Rattle.std.proofs.lemmas.List.{take_more}
use Rattle.store_trace.specs.Tasks.{MakesChore}
use Rattle.store_trace.proofs.MadeLines.{shared_made, shared_left}
use Rattle.store_trace.proofs.threads.make_chores.Goals as goal
use Rattle.store_trace.proofs.threads.make_chores.Goals.{then-has, else-has}

pub loop-task-preserved : goal.loop-task-preserved
loop-task-preserved g c =
    let makes = MakesChore g.M.MakesChores.unlinks g.M.MakesChores.pulls g.M.MakesChores.sweeps g.M.MakesChores.drains in
    let i = c.loop-task.task-index in
    let next = take_more c.args.tasks.now i _ c.loop-task-test.true in
    elim c.if-has.branch [
      | then-has w ↦ shared_made makes c.args.share c.args.tasks.now i _ next c.args.maker.now c.loop-task.maker c.if-has.maker
          (sym c.has.ensures ∙ w.if-has.true) c.loop-task.invariant
          (subst (λ m. makes _ c.loop-task.maker m) (sym w.maker-is) w.make_chore.ensures)
      | else-has w ↦ shared_left makes c.args.share c.args.tasks.now i _ next c.args.maker.now c.loop-task.maker c.if-has.maker
          (sym c.has.ensures ∙ w.if-has.false) c.loop-task.invariant w.maker-is
    ]
