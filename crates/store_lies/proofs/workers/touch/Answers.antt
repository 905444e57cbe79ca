use Rattle.std.proofs.Common.{rules}
use Rattle.store_lies.proofs.workers.touch.Goals as goal

pub returns-clause-exhausted : goal.returns-clause-exhausted
returns-clause-exhausted g c = search rules

pub returns-clause-touched : goal.returns-clause-touched
returns-clause-touched g c = search rules

pub returns-clause-few : goal.returns-clause-few
returns-clause-few g c = search rules
