use Rattle.std.proofs.Common.{rules}
use Rattle.store_lies.proofs.seats.put_label.Goals as goal

pub returns : goal.returns
returns g c = search rules
