use Rattle.std.proofs.Common.{◌≡◌}
use Rattle.store_tests.proofs.tests.moves.apply_in_turn.Given as goal

abbrev pub invariant-loop-now : goal.invariant-loop-now
invariant-loop-now g l = l.applying.lane.ring ≡ l.fn.lane.lane.ring
