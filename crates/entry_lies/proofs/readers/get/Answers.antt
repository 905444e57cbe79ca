use Rattle.std.proofs.Common.{rules}
use Rattle.entry_lies.proofs.readers.get.Goals as goal

pub returns-clause-found : goal.returns-clause-found
returns-clause-found g c = search rules

pub returns-clause-missed : goal.returns-clause-missed
returns-clause-missed g c = search rules
