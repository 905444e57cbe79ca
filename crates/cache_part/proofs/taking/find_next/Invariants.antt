use Rattle.std.proofs.Common.{◌≡◌, ℕ, ◌+◌}
use Rattle.cache_part.specs.Expiring.{HasNoneExpired, IsNumberInTurn, number_behind}
use Rattle.cache_part.specs.Looks.{LooksOnly}
use Rattle.cache_part.proofs.taking.find_next.Given as goal

-- so many chunks were passed in turn, of which none has an expired item, and this is the next one
abbrev pub invariant-loop-look : goal.invariant-loop-look
invariant-loop-look g l = record {
  looks : LooksOnly l.fn.lists.book l.lists.book;
  rest : l.lists ≡ record l.fn.lists { book = l.lists.book };
  none : (n : ℕ) → IsNumberInTurn l.fn.cursor l._look l.fn.lists.book.sheet.count n
      → HasNoneExpired l.fn.now (l.fn.lists.book.sheet.first + n) l.fn.lists.book;
  at : l.number ≡ number_behind l.fn.cursor l._look l.fn.lists.book.sheet.count;
}
