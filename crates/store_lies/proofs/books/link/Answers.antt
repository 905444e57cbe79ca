use Rattle.std.proofs.Common.{rules}
use Rattle.store_lies.proofs.books.link.Goals as goal

pub returns-clause-item : goal.returns-clause-item
returns-clause-item g c = search rules

pub returns-clause-linked : goal.returns-clause-linked
returns-clause-linked g c = search rules

pub returns-clause-unchanged : goal.returns-clause-unchanged
returns-clause-unchanged g c = search rules
