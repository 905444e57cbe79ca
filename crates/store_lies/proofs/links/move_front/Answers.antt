use Rattle.std.proofs.Common.{rules}
use Rattle.store_lies.proofs.links.move_front.Goals as goal

pub returns-clause-moved : goal.returns-clause-moved
returns-clause-moved c = search rules
