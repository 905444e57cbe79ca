use Rattle.std.proofs.Common.{rules}
use Rattle.store_lies.proofs.books.unlink.Goals as goal

pub returns-clause-refused : goal.returns-clause-refused
returns-clause-refused g c = search rules

pub returns-clause-unlinked : goal.returns-clause-unlinked
returns-clause-unlinked g c = search rules
