use Rattle.std.proofs.Common.{◌≡◌, ◌+◌, length, vec_len}
use Rattle.std.specs.Vec.Iter.{into_iter_items}
use Rattle.bump_store.proofs.opening.put_under_locks.Given as goal

-- those that are locked, and those that are still to come
abbrev pub invariant-loop-book : goal.invariant-loop-book
invariant-loop-book g l = vec_len l.locks + length (into_iter_items l.book-iterator) ≡ length l.fn.books.items
