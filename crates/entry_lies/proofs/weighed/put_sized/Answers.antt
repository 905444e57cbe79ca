use Rattle.std.proofs.Common.{rules}
use Rattle.entry_lies.proofs.weighed.put_sized.Goals as goal

pub returns-clause-light : goal.returns-clause-light
returns-clause-light g c = search rules

pub returns-clause-puts : goal.returns-clause-puts
returns-clause-puts g c = search rules

pub returns-clause-refuses : goal.returns-clause-refuses
returns-clause-refuses g c = search rules
