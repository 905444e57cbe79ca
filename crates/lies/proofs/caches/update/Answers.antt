use Rattle.std.proofs.Common.{rules}
use Rattle.lies.proofs.caches.update.Goals as goal

pub returns-clause-changes : goal.returns-clause-changes
returns-clause-changes g c = search rules

pub returns-clause-refuses : goal.returns-clause-refuses
returns-clause-refuses g c = search rules
