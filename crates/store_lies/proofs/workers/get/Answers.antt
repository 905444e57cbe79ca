use Rattle.std.proofs.Common.{rules}
use Rattle.store_lies.proofs.workers.get.Goals as goal

pub returns-clause-got : goal.returns-clause-got
returns-clause-got g c = search rules

pub returns-clause-hold : goal.returns-clause-hold
returns-clause-hold g c = search rules

pub returns-clause-missing : goal.returns-clause-missing
returns-clause-missing g c = search rules

pub returns-clause-few : goal.returns-clause-few
returns-clause-few g c = search rules
