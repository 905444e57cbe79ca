use Rattle.std.proofs.Common.{rules}
use Rattle.store_lies.proofs.stores.drain.Goals as goal

pub returns-clause-count : goal.returns-clause-count
returns-clause-count g c = search rules

pub returns-clause-drained : goal.returns-clause-drained
returns-clause-drained g c = search rules

pub returns-clause-none : goal.returns-clause-none
returns-clause-none g c = search rules
