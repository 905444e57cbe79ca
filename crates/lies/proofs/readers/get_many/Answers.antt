use Rattle.std.proofs.Common.{rules}
use Rattle.lies.proofs.readers.get_many.Goals as goal

pub returns-clause-each : goal.returns-clause-each
returns-clause-each g c = search rules
