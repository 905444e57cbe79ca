use Rattle.std.proofs.Common.{rules}
use Rattle.store_lies.proofs.links.new.Goals as goal

pub returns-clause-made : goal.returns-clause-made
returns-clause-made c = search rules
