use Rattle.std.proofs.Common.{◌+◌, ◌*◌, arith, refl}
use Rattle.replay_runs.specs.Writing.{IsBalance}
use Rattle.replay_runs.proofs.WritingLemmas.{adds_none, adds_both, adds_fewer}
use Rattle.replay_runs.proofs.accesses.balance.Goals as goal

pub loop-init : goal.loop-init
loop-init c = adds_none IsBalance (2 * 0) _ _ refl

pub returns-then-not-branch-clause-text : goal.returns-then-not-branch-clause-text
returns-then-not-branch-clause-text c =
    adds_fewer (2 * c.args.count) (omega arith) (adds_both c.loop.invariant c.in_ok-look.ensures.text)

pub loop-preserved : goal.loop-preserved
loop-preserved c =
    adds_fewer (2 * (c.loop.counter + 1)) (omega arith) (adds_both c.loop.invariant c.in_ok-look.ensures.text)

pub returns-clause-text : goal.returns-clause-text
returns-clause-text c = adds_fewer (2 * c.args.count) (omega arith) c.loop.invariant
