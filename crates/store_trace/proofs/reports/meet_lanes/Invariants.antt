use Rattle.std.proofs.Common.{◌≡◌, ◌≤◌, length, map, take}
use Rattle.bump_class.specs.Applications.{moved_in}
use Rattle.bump_class.specs.Changes.{book_after_meets}
use Rattle.bump_class.specs.Lanes.{entries}
use Rattle.bump_rules.specs.Entries.{moves_of}
use Rattle.store_trace.specs.Pairs.{lanes_of}
use Rattle.store_trace.proofs.reports.meet_lanes.Given as goal

-- the first lanes, so many, met the Book
abbrev pub invariant-loop-at : goal.invariant-loop-at
invariant-loop-at g l = record {
  book : l.book ≡ book_after_meets l.at l.fn.book;
  lanes : lanes_of l.pairs.items ≡ lanes_of l.fn.pairs.items;
  told : map (λ m. moves_of m.lane.sheet.worker l.fn.book.sheet.history) (take l.at (lanes_of l.fn.pairs.items))
      ≡ map (λ m. moved_in l.fn.book.sheet (entries m.lane)) (take l.at (lanes_of l.fn.pairs.items));
  end : l.at-end ≡ length l.fn.pairs.items;
  place : l.at ≤ length l.fn.pairs.items;
}
