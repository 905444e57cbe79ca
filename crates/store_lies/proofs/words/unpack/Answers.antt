use Rattle.std.proofs.Common.{rules}
use Rattle.store_lies.proofs.words.unpack.Goals as goal

pub returns-clause-head : goal.returns-clause-head
returns-clause-head c = search rules

pub returns-clause-every : goal.returns-clause-every
returns-clause-every c = search rules

pub returns-clause-none : goal.returns-clause-none
returns-clause-none c = search rules
