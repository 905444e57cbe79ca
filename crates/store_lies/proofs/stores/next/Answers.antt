use Rattle.std.proofs.Common.{rules}
use Rattle.store_lies.proofs.stores.next.Goals as goal

pub returns-clause-next : goal.returns-clause-next
returns-clause-next g c = search rules

pub returns-clause-entry : goal.returns-clause-entry
returns-clause-entry g c = search rules

pub returns-clause-unchanged : goal.returns-clause-unchanged
returns-clause-unchanged g c = search rules
