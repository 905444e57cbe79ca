use Rattle.std.proofs.Common.{rules}
use Rattle.lies.proofs.caches.stats.Goals as goal

pub returns-clause-stats : goal.returns-clause-stats
returns-clause-stats g c = search rules
