use Rattle.std.proofs.Common.{rules}
use Rattle.bump_class.proofs.books.Book.see.Goals as goal

pub returns-clause-fits : goal.returns-clause-fits
returns-clause-fits g c = search rules

pub returns-clause-seen : goal.returns-clause-seen
returns-clause-seen g c = search rules
