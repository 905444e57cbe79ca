use Rattle.std.proofs.Common.{rules}
use Rattle.part_lies.proofs.parts.evict.Goals as goal

pub returns-clause-evicts : goal.returns-clause-evicts
returns-clause-evicts g c = search rules
