use Rattle.std.proofs.Common.{rules}
use Rattle.bump_class.proofs.books.Book.has_chunk.Goals as goal

pub returns-then-self-chunk : goal.returns-then-self-chunk
returns-then-self-chunk g c = search rules
