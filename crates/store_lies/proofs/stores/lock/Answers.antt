use Rattle.std.proofs.Common.{rules}
use Rattle.store_lies.proofs.stores.lock.Goals as goal

pub returns-clause-class : goal.returns-clause-class
returns-clause-class g c = search rules
