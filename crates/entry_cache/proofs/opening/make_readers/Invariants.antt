use Rattle.std.proofs.Common.{◌≡◌, ◌++◌}
use Rattle.std.specs.Vec.Iter.{into_iter_items}
use Rattle.entry_cache.specs.Readers.{row_readers}
use Rattle.entry_cache.proofs.opening.make_readers.Given as goal

-- those that were made, and those that are still to come
abbrev pub invariant-loop-reader : goal.invariant-loop-reader
invariant-loop-reader g l = row_readers l.readers.items ++ into_iter_items l.reader-iterator ≡ l.fn.rows.items
