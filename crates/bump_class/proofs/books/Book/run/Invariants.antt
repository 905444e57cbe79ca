use Rattle.std.proofs.Common.{◌-◌}
use Rattle.bump_class.proofs.RunLemmas.{GoesOn}
use Rattle.bump_class.proofs.books.Book.run.Given as goal

-- so many bumps were applied, and the next one, which is of the class, is aboard
abbrev pub invariant-loop-done : goal.invariant-loop-done
invariant-loop-done g l =
    GoesOn l.limit l.now l.fn.self l.fn.lane l.fn.freed l.done l.count l.freed l.self l.lane l.bump

abbrev pub decreases-loop-done : goal.decreases-loop-done
decreases-loop-done g l = l.limit - l.done
