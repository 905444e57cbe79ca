use Rattle.std.proofs.Common.{◌≡◌, ◌≤◌, length}
use Rattle.bump_rules.specs.Entries.{moves_of}
use Rattle.bump_class.specs.Applications.{EachMoveIsTold, moved_in}
use Rattle.bump_class.specs.Changes.{book_after_meets}
use Rattle.bump_class.specs.Lanes.{entries}
use Rattle.bump_store.proofs.MeetingLemmas.{SoFar}
use Rattle.bump_store.proofs.maintainers.Maintainer.meet.Given as goal

abbrev pub invariant-loop-worker : goal.invariant-loop-worker
invariant-loop-worker g l = record {
  lanes : l.self-inside.lanes.items ≡ l.fn.self;
  book : l.book ≡ book_after_meets l.worker l.fn.book;
  told : SoFar (λ x. EachMoveIsTold l.fn.book.sheet x.lane.sheet) l.worker l.fn.self;
  moves : SoFar (λ x. moves_of x.lane.sheet.worker l.fn.book.sheet.history ≡ moved_in l.fn.book.sheet (entries x.lane))
      l.worker l.fn.self;
  end : l.count ≡ length l.fn.self;
  place : l.worker ≤ length l.fn.self;
}
