use Rattle.std.proofs.Common.{rules}
use Rattle.store_lies.proofs.rings.rest.Goals as goal

pub returns-clause-number : goal.returns-clause-number
returns-clause-number g c = search rules
