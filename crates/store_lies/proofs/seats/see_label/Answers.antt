use Rattle.std.proofs.Common.{rules}
use Rattle.store_lies.proofs.seats.see_label.Goals as goal

pub returns-clause-seen : goal.returns-clause-seen
returns-clause-seen g c = search rules
