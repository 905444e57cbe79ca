use Rattle.std.proofs.Common.{◌≡◌, take}
use Rattle.store_trace.specs.Gates.{PassedFirst}
use Rattle.store_trace.specs.Tasks.{MakesEach}
use Rattle.store_trace.proofs.threads.make_gets.Given as goal

-- its lines so far passed, and were made
abbrev pub invariant-loop-task : goal.invariant-loop-task
invariant-loop-task g l = record {
  count : l.call ≡ l.task-index;
  passed : PassedFirst (g.G.Gate.lets l.fn.gate l.fn.number) (g.G.Gate.sees l.fn.gate l.fn.number) l.call;
  made : MakesEach g.M.MakesGets.gets (take l.task-index l.tasks) l.fn.maker l.maker;
}
