use Rattle.std.proofs.Common.{rules}
use Rattle.bump_class.proofs.books.Book.pull_by.Goals as goal

pub returns-in_default : goal.returns-in_default
returns-in_default g c = search rules

pub returns-in-Evict : goal.returns-in-Evict
returns-in-Evict g c = search rules

pub returns-in-Hot : goal.returns-in-Hot
returns-in-Hot g c = search rules
