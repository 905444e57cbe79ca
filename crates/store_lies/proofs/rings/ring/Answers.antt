use Rattle.std.proofs.Common.{rules}
use Rattle.store_lies.proofs.rings.ring.Goals as goal

pub returns-clause-ring : goal.returns-clause-ring
returns-clause-ring g c = search rules
