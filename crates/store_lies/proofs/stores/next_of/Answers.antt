use Rattle.std.proofs.Common.{rules}
use Rattle.store_lies.proofs.stores.next_of.Goals as goal

pub returns-clause-none : goal.returns-clause-none
returns-clause-none g c = search rules

pub returns-clause-unseen : goal.returns-clause-unseen
returns-clause-unseen g c = search rules
