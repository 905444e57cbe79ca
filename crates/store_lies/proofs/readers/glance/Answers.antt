use Rattle.std.proofs.Common.{rules}
use Rattle.store_lies.proofs.readers.glance.Goals as goal

pub returns-clause-begins : goal.returns-clause-begins
returns-clause-begins g c = search rules

pub returns-clause-gone : goal.returns-clause-gone
returns-clause-gone g c = search rules

pub returns-clause-looked : goal.returns-clause-looked
returns-clause-looked g c = search rules
