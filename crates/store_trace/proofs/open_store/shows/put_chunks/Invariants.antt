use Rattle.std.proofs.Common.{◌≡◌}
use Rattle.store_trace.proofs.open_store.shows.put_chunks.Given as goal

-- the Book's class has the same chunks
abbrev pub invariant-loop-chunk : goal.invariant-loop-chunk
invariant-loop-chunk g l = record {
  first : l.book.sheet.first ≡ l.initial.book.sheet.first;
  count : l.book.sheet.count ≡ l.initial.book.sheet.count;
}
