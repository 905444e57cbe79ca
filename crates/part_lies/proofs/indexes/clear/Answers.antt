use Rattle.std.proofs.Common.{rules}
use Rattle.part_lies.proofs.indexes.clear.Goals as goal

pub returns-clause-table : goal.returns-clause-table
returns-clause-table c = search rules
