use Rattle.std.proofs.Common.{◌≡◌, ℕ, ◌+◌, ◌≤◌}
use Rattle.cache_part.specs.Expiring.{HasNoneExpired, IsNumberInTurn, KeepsUnexpired, LooksAround, number_behind}
use Rattle.cache_part.specs.Parts.{IsPart}
use Rattle.cache_part.proofs.expiring.end_expired.Given as goal

-- so many chunks were looked at in turn, and this is the next one
abbrev pub invariant-loop-look : goal.invariant-loop-look
invariant-loop-look g l = record {
  part : IsPart l.fn.settings.seed l.fn.settings.key_words l.lists.book.sheet l.index.table;
  first : l.index.first ≡ l.fn.index.first;
  looks : LooksAround l._look l.fn.cursor l.fn.now l.ended l.fn.lists l.lists;
  none : (n : ℕ) → IsNumberInTurn l.fn.cursor l._look l.fn.lists.book.sheet.count n
      → HasNoneExpired l.fn.now (l.fn.lists.book.sheet.first + n) l.lists.book;
  kept : KeepsUnexpired l.fn.now l.fn.lists.book l.lists.book;
  at : l.number ≡ number_behind l.fn.cursor l._look l.fn.lists.book.sheet.count;
  few : l.ended ≤ l._look;
}
