use Rattle.std.proofs.Common.{◌≡◌, ◌++◌}
use Rattle.store_trace.specs.Reports.{moves_lines, moves_of_each}
use Rattle.store_trace.proofs.reports.put_class_moves.Given as goal

-- the moves of the first workers, so many
abbrev pub invariant-loop-worker : goal.invariant-loop-worker
invariant-loop-worker g l =
    l.out.items ≡ l.fn.out.items ++ moves_lines l.class (moves_of_each l.worker l.book.sheet.history)
