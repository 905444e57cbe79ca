use Rattle.std.proofs.Common.{rules}
use Rattle.store_lies.proofs.rings.offer.Goals as goal

pub returns-clause-full : goal.returns-clause-full
returns-clause-full g c = search rules

pub returns-clause-sent : goal.returns-clause-sent
returns-clause-sent g c = search rules
