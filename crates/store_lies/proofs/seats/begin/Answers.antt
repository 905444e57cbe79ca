use Rattle.std.proofs.Common.{rules}
use Rattle.store_lies.proofs.seats.begin.Goals as goal

pub returns-clause-next : goal.returns-clause-next
returns-clause-next g c = search rules
