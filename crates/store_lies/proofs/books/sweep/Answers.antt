use Rattle.std.proofs.Common.{rules}
use Rattle.store_lies.proofs.books.sweep.Goals as goal

pub returns : goal.returns
returns g c = search rules
