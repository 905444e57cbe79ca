use Rattle.std.proofs.Common.{arith}
use Rattle.model_state.proofs.workers.Counts.{new_counted}
use Rattle.model_state.proofs.workers.Workers.new.Goals as goal

pub invariant_of-result : goal.invariant_of-result
invariant_of-result c = new_counted c.loop.all.items c.loop.counter (omega (
  arith,
  c.loop.auto.counter-end,
  c.ranges.count.fits,
)) c.loop.invariant
