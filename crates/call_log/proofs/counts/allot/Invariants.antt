use Rattle.std.proofs.Common.{◌≡◌, ◌*◌}
use Rattle.call_log.specs.Counts.{most_calls}
use Rattle.call_log.proofs.counts.allot.Given as goal

-- so many values have got what their calls cost
abbrev pub invariant-loop : goal.invariant-loop
invariant-loop g l = (l.book.total ≡ most_calls * l.counter) × (l.left.amount ≡ most_calls * l.counter)
    × (l.left.parts ≡ l.fn.values)
