use Rattle.std.proofs.Common.{rules}
use Rattle.store_lies.proofs.readers.give_back.Goals as goal

pub returns-clause-generation : goal.returns-clause-generation
returns-clause-generation g c = search rules

pub returns-clause-counted : goal.returns-clause-counted
returns-clause-counted g c = search rules

pub returns-clause-spent : goal.returns-clause-spent
returns-clause-spent g c = search rules
