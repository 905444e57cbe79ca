use Rattle.std.proofs.Common.{rules}
use Rattle.bump_store.proofs.stores.Store.lock.Goals as goal

pub returns-then-class-len-clause-none : goal.returns-then-class-len-clause-none
returns-then-class-len-clause-none g c = search rules

pub returns-clause-class : goal.returns-clause-class
returns-clause-class g c = search rules

pub returns-clause-none : goal.returns-clause-none
returns-clause-none g c = search rules
