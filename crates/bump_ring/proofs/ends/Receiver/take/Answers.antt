use Rattle.std.proofs.Common.{rules}
use Rattle.bump_ring.proofs.ends.Receiver.take.Goals as goal

pub returns-then-not-self-clause-number : goal.returns-then-not-self-clause-number
returns-then-not-self-clause-number g c = search rules

pub returns-then-not-self-clause-received : goal.returns-then-not-self-clause-received
returns-then-not-self-clause-received g c = search rules

pub returns-then-not-self-clause-unchanged : goal.returns-then-not-self-clause-unchanged
returns-then-not-self-clause-unchanged g c = search rules
