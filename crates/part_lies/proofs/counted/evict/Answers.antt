use Rattle.std.proofs.Common.{rules}
use Rattle.part_lies.proofs.counted.evict.Goals as goal

pub returns-clause-evicts : goal.returns-clause-evicts
returns-clause-evicts g c = search rules

pub returns-clause-ends : goal.returns-clause-ends
returns-clause-ends g c = search rules

pub returns-clause-expires : goal.returns-clause-expires
returns-clause-expires g c = search rules
