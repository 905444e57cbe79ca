use Rattle.std.proofs.Common.{rules}
use Rattle.entry_lies.proofs.caches.put_until.Goals as goal

pub returns-clause-puts : goal.returns-clause-puts
returns-clause-puts g c = search rules

pub returns-clause-entry : goal.returns-clause-entry
returns-clause-entry g c = search rules

pub returns-clause-refuses : goal.returns-clause-refuses
returns-clause-refuses g c = search rules

pub returns-clause-value : goal.returns-clause-value
returns-clause-value g c = search rules
