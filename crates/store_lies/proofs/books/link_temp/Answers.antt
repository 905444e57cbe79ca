use Rattle.std.proofs.Common.{rules}
use Rattle.store_lies.proofs.books.link_temp.Goals as goal

pub returns-clause-item : goal.returns-clause-item
returns-clause-item g c = search rules

pub returns-clause-linked : goal.returns-clause-linked
returns-clause-linked g c = search rules

pub returns-clause-label : goal.returns-clause-label
returns-clause-label g c = search rules
