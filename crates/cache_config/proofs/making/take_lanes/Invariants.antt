use Rattle.std.proofs.Common.{◌≡◌, ◌++◌, length}
use Rattle.std.specs.Vec.Iter.{into_iter_items}
use Rattle.cache_config.proofs.making.take_lanes.Given as goal

-- so many were taken, and the others are left
abbrev pub invariant-loop : goal.invariant-loop
invariant-loop g l = record {
  count : length l.lanes.items ≡ l.counter;
  taken : into_iter_items l.fn.left ≡ l.lanes.items ++ into_iter_items l.left;
}
