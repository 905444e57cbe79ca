use Rattle.std.proofs.Common.{rules}
use Rattle.store_lies.proofs.raw_lanes.apply_run_into.Goals as goal

pub returns-clause-freed : goal.returns-clause-freed
returns-clause-freed g c = search rules

pub returns-clause-few : goal.returns-clause-few
returns-clause-few g c = search rules

pub returns-clause-over : goal.returns-clause-over
returns-clause-over g c = search rules

pub returns-clause-full : goal.returns-clause-full
returns-clause-full g c = search rules
