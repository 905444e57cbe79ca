use Rattle.std.proofs.Common.{rules}
use Rattle.store_lies.proofs.rings.known.Goals as goal

pub returns : goal.returns
returns g c = search rules
