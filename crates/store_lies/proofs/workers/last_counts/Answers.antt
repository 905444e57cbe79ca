use Rattle.std.proofs.Common.{rules}
use Rattle.store_lies.proofs.workers.last_counts.Goals as goal

pub returns-clause-counts : goal.returns-clause-counts
returns-clause-counts g c = search rules

pub returns-clause-add_up : goal.returns-clause-add_up
returns-clause-add_up g c = search rules

pub returns-clause-attempts : goal.returns-clause-attempts
returns-clause-attempts g c = search rules
