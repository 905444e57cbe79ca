use Rattle.std.proofs.Common.{rules}
use Rattle.part_lies.proofs.parts.tend.Goals as goal

pub returns-clause-tends : goal.returns-clause-tends
returns-clause-tends g c = search rules

pub returns-clause-looked : goal.returns-clause-looked
returns-clause-looked g c = search rules
