use Rattle.std.proofs.Common.{rules}
use Rattle.entry_lies.proofs.caches.remove.Goals as goal

pub returns-clause-removes : goal.returns-clause-removes
returns-clause-removes g c = search rules
