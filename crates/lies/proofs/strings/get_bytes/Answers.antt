use Rattle.std.proofs.Common.{rules}
use Rattle.lies.proofs.strings.get_bytes.Goals as goal

pub returns-clause-found : goal.returns-clause-found
returns-clause-found g c = search rules

pub returns-clause-counted : goal.returns-clause-counted
returns-clause-counted g c = search rules

pub returns-clause-missed : goal.returns-clause-missed
returns-clause-missed g c = search rules

pub returns-clause-too_long : goal.returns-clause-too_long
returns-clause-too_long g c = search rules
