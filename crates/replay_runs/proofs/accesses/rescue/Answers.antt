use Rattle.std.proofs.Common.{arith, refl}
use Rattle.bump_rules.specs.declared.places.Tail.TheVariants.{Cold}
use Rattle.cache_lists.specs.Rescues.{most_rescues}
use Rattle.replay_runs.specs.Writing.{IsPull}
use Rattle.replay_runs.proofs.WritingLemmas.{adds_none, adds_one, adds_both, adds_fewer}
use Rattle.replay_runs.proofs.accesses.rescue.Goals as goal

pub loop-init : goal.loop-init
loop-init c = adds_none (IsPull Cold) 0 _ _ refl

pub returns-then-not-branch-clause-text : goal.returns-then-not-branch-clause-text
returns-then-not-branch-clause-text c =
    adds_fewer most_rescues (omega arith)
    (adds_both c.loop.invariant (adds_one (IsPull Cold) _ _ _ refl c.in_ok-rescue_last.ensures.text))

pub loop-preserved : goal.loop-preserved
loop-preserved c = adds_both c.loop.invariant (adds_one (IsPull Cold) _ _ _ refl c.in_ok-rescue_last.ensures.text)

pub returns-clause-text : goal.returns-clause-text
returns-clause-text c = adds_fewer most_rescues (omega arith) c.loop.invariant
