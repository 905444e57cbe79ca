use Rattle.std.proofs.Common.{◌≡◌, ℕ, ◌+◌, ◌++◌, length, vec_len}
use Rattle.store_trace.specs.Dealing.{in_turn, group_lanes}
use Rattle.store_trace.proofs.dealing.deal.Given as goal

-- so many groups were made
abbrev pub invariant-loop : goal.invariant-loop
invariant-loop g l = length l.groups.items ≡ l.counter

-- so many of the last lanes were dealt
abbrev pub invariant-loop-lane : goal.invariant-loop-lane
invariant-loop-lane g l = record {
  count : length l.groups.items ≡ l.drainers;
  dealt : (n : ℕ) × (length l.left.items + n ≡ length l.fn.lanes.items) × (l.left.items ++ in_turn n (group_lanes l.groups.items) ≡ l.fn.lanes.items);
}

abbrev pub decreases-loop-lane : goal.decreases-loop-lane
decreases-loop-lane g l = vec_len l.left
