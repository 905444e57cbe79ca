use Rattle.std.proofs.Common.{◌≡◌, ◌-◌, ◌++◌}
use Rattle.store_trace.specs.Dealing.{in_turn, group_lanes}
use Rattle.store_trace.proofs.dealing.gather.Given as goal

-- what was gathered, and what is still to come
abbrev pub invariant-loop-done : goal.invariant-loop-done
invariant-loop-done g l = l.lanes.items ++ in_turn (l.count - l.done) (group_lanes l.left.items) ≡ in_turn l.count (group_lanes l.fn.groups.items)
