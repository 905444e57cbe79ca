use Rattle.std.proofs.Common.{◌+◌, ◌≤◌, length}
use Rattle.bump_trace.specs.Meaning.{parts_of}
use Rattle.bump_trace.specs.Stages.{Before}
use Rattle.bump_trace.specs.Views.{opening_of}
use Rattle.store_trace.specs.Endings.{Goes}
use Rattle.store_trace.proofs.openings.read_opening.Given as goal

-- each line that was read took a byte, and whatever ends from here on ends so from the first line on
abbrev pub invariant-loop-line : goal.invariant-loop-line
invariant-loop-line l = record {
  room : l.number + length l.rest ≤ 16777217;
  so_far : Goes 1 (parts_of l.input) Before l.number (parts_of l.rest) (opening_of l.opening);
}

abbrev pub decreases-loop-line : goal.decreases-loop-line
decreases-loop-line l = length l.rest
