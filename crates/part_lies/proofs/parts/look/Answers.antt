use Rattle.std.proofs.Common.{rules}
use Rattle.part_lies.proofs.parts.look.Goals as goal

pub returns-clause-item : goal.returns-clause-item
returns-clause-item g c = search rules

pub returns-clause-told : goal.returns-clause-told
returns-clause-told g c = search rules
