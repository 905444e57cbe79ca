use Rattle.std.proofs.Common.{◌≡◌}
use Rattle.store_tests.proofs.tests.moves.hit_in_turn.Given as goal

abbrev pub invariant-loop-now : goal.invariant-loop-now
invariant-loop-now g l = l.hitting.sender.ring ≡ l.fn.worker.sender.ring
