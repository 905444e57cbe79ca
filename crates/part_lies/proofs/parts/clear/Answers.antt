use Rattle.std.proofs.Common.{rules}
use Rattle.part_lies.proofs.parts.clear.Goals as goal

pub returns-clause-empty : goal.returns-clause-empty
returns-clause-empty g c = search rules
