use Rattle.std.proofs.Common.{rules}
use Rattle.part_lies.proofs.parts.put.Goals as goal

pub returns-clause-puts : goal.returns-clause-puts
returns-clause-puts g c = search rules

pub returns-clause-refuses : goal.returns-clause-refuses
returns-clause-refuses g c = search rules
