use Rattle.std.proofs.Common.{rules}
use Rattle.part_lies.proofs.counted.end_expired.Goals as goal

pub returns : goal.returns
returns g c = search rules
