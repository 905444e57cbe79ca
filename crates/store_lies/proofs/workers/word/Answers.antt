use Rattle.std.proofs.Common.{rules}
use Rattle.store_lies.proofs.workers.word.Goals as goal

pub returns-clause-is : goal.returns-clause-is
returns-clause-is g c = search rules
