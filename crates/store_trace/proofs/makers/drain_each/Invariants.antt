use Rattle.std.proofs.Common.{◌≡◌, ◌≤◌, length}
use Rattle.bump_store.specs.Passes.{IsDrained}
use Rattle.store_trace.proofs.InTurn.{ChangedSoFar}
use Rattle.store_trace.proofs.makers.drain_each.Given as goal

-- the first lanes, so many, were drained once each
abbrev pub invariant-loop-at : goal.invariant-loop-at
invariant-loop-at g l = record {
  drained : ChangedSoFar (IsDrained l.now) l.at l.fn.lanes.items l.lanes.items;
  end : l.at-end ≡ length l.fn.lanes.items;
  place : l.at ≤ length l.fn.lanes.items;
}
