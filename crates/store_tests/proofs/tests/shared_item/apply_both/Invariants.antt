use Rattle.std.proofs.Common.{◌≡◌}
use Rattle.store_tests.proofs.tests.shared_item.apply_both.Given as goal

abbrev pub invariant-loop : goal.invariant-loop
invariant-loop g l =
    (l.lane.lane.ring ≡ l.fn.first.lane.ring) × (l.other.lane.ring ≡ l.fn.second.lane.ring)
