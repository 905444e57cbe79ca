use Rattle.std.proofs.Common.{rules}
use Rattle.store_lies.proofs.readers.rider_back.Goals as goal

pub returns : goal.returns
returns g c = search rules
