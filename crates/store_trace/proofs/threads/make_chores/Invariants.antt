use Rattle.std.proofs.Common.{take}
use Rattle.store_trace.specs.Tasks.{MakesEach, MakesChore, lines_of}
use Rattle.store_trace.proofs.threads.make_chores.Given as goal

-- those of the first lines were made that are of the share
abbrev pub invariant-loop-task : goal.invariant-loop-task
invariant-loop-task g l =
    MakesEach (MakesChore g.M.MakesChores.unlinks g.M.MakesChores.pulls g.M.MakesChores.sweeps g.M.MakesChores.drains)
    (lines_of l.share (take l.task-index l.tasks)) l.fn.maker l.maker
