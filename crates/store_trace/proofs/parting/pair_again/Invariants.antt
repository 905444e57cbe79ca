use Rattle.std.proofs.Common.{◌≡◌, ◌+◌, ◌++◌, length}
use Rattle.std.specs.Vec.Iter.{into_iter_items}
use Rattle.bump_store.specs.Lanes.{lane_rings}
use Rattle.store_trace.specs.Pairs.{lanes_of}
use Rattle.store_trace.specs.Slots.{slot_rings}
use Rattle.store_trace.proofs.parting.pair_again.Given as goal

-- the workers and the lanes still to come are of the same rings, and with the pairs they are all
abbrev pub invariant-loop-slot : goal.invariant-loop-slot
invariant-loop-slot g l = record {
  count : length l.pairs.items + length (into_iter_items l.slot-iterator) ≡ length l.fn.slots.items;
  rings : slot_rings (into_iter_items l.slot-iterator) ≡ lane_rings (into_iter_items l.left);
  lanes : lanes_of l.pairs.items ++ into_iter_items l.left ≡ l.fn.lanes.items;
}
