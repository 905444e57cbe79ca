use Rattle.std.proofs.Common.{◌≡◌}
use Rattle.store_trace.specs.WholeLines.{IsLines}
use Rattle.store_trace.proofs.pairs.put_rest.Given as goal

-- the lane stays that of the closed worker's ring, and the text whole lines
abbrev pub invariant-loop : goal.invariant-loop
invariant-loop g l = record {
  ring : l.lane.lane.ring ≡ l.fn.lane.lane.ring;
  closed : l.closed ≡ l.fn.closed;
  lines : IsLines l.fn.out.items → IsLines l.out.items;
}
