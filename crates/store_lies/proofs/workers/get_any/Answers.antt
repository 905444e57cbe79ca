use Rattle.std.proofs.Common.{rules}
use Rattle.store_lies.proofs.workers.get_any.Goals as goal

pub returns-clause-missing : goal.returns-clause-missing
returns-clause-missing g c = search rules

pub returns-clause-got : goal.returns-clause-got
returns-clause-got g c = search rules

pub returns-clause-chunk : goal.returns-clause-chunk
returns-clause-chunk g c = search rules

pub returns-clause-found : goal.returns-clause-found
returns-clause-found g c = search rules
