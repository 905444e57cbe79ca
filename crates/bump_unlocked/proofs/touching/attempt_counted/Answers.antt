use Rattle.std.proofs.Common.{rules}
use Rattle.bump_unlocked.proofs.touching.attempt_counted.Goals as goal

pub returns-clause-attempted : goal.returns-clause-attempted
returns-clause-attempted g c = search rules
