use Rattle.std.proofs.Common.{rules}
use Rattle.part_lies.proofs.counted.rescue.Goals as goal

pub returns-clause-rescued : goal.returns-clause-rescued
returns-clause-rescued g c = search rules
