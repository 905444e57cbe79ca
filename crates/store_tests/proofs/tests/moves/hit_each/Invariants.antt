use Rattle.std.proofs.Common.{◌≡◌}
use Rattle.store_tests.proofs.tests.moves.hit_each.Given as goal

abbrev pub invariant-loop-item : goal.invariant-loop-item
invariant-loop-item g l = l.worker.sender.ring ≡ l.initial.worker.sender.ring
