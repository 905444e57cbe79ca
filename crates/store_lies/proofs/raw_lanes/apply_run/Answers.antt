use Rattle.std.proofs.Common.{rules}
use Rattle.store_lies.proofs.raw_lanes.apply_run.Goals as goal

pub returns-clause-applied : goal.returns-clause-applied
returns-clause-applied g c = search rules

pub returns-clause-over : goal.returns-clause-over
returns-clause-over g c = search rules
