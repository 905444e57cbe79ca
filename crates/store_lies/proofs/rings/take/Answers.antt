use Rattle.std.proofs.Common.{rules}
use Rattle.store_lies.proofs.rings.take.Goals as goal

pub returns-clause-number : goal.returns-clause-number
returns-clause-number g c = search rules

pub returns-clause-received : goal.returns-clause-received
returns-clause-received g c = search rules

pub returns-clause-known : goal.returns-clause-known
returns-clause-known g c = search rules

pub returns-clause-unknown : goal.returns-clause-unknown
returns-clause-unknown g c = search rules

pub returns-clause-none : goal.returns-clause-none
returns-clause-none g c = search rules

pub returns-clause-unchanged : goal.returns-clause-unchanged
returns-clause-unchanged g c = search rules
