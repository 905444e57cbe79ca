use Rattle.std.proofs.Common.{rules}
use Rattle.lies.proofs.readers.peek.Goals as goal

pub returns-clause-found : goal.returns-clause-found
returns-clause-found g c = search rules

pub returns-clause-nothing : goal.returns-clause-nothing
returns-clause-nothing g c = search rules
