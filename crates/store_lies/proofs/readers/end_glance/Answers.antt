use Rattle.std.proofs.Common.{rules}
use Rattle.store_lies.proofs.readers.end_glance.Goals as goal

pub returns-clause-looked : goal.returns-clause-looked
returns-clause-looked g c = search rules

pub returns-clause-faithful : goal.returns-clause-faithful
returns-clause-faithful g c = search rules
