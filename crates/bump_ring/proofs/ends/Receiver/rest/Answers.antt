use Rattle.std.proofs.Common.{rules}
use Rattle.bump_ring.proofs.ends.Receiver.rest.Goals as goal

pub returns-clause-number : goal.returns-clause-number
returns-clause-number g c = search rules

pub returns-clause-none : goal.returns-clause-none
returns-clause-none g c = search rules

pub returns-clause-unchanged : goal.returns-clause-unchanged
returns-clause-unchanged g c = search rules

pub returns-clause-few : goal.returns-clause-few
returns-clause-few g c = search rules
