use Rattle.std.proofs.Common.{rules}
use Rattle.lies.proofs.held.value.Goals as goal

pub returns-clause-is : goal.returns-clause-is
returns-clause-is g c = search rules

pub returns-clause-words : goal.returns-clause-words
returns-clause-words g c = search rules

pub returns-clause-fits : goal.returns-clause-fits
returns-clause-fits g c = search rules
