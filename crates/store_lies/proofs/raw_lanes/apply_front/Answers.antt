use Rattle.std.proofs.Common.{rules}
use Rattle.store_lies.proofs.raw_lanes.apply_front.Goals as goal

pub returns : goal.returns
returns g c = search rules
