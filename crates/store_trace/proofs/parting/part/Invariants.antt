use Rattle.std.proofs.Common.{◌≡◌, ◌+◌, ◌++◌, length}
use Rattle.std.specs.Vec.Iter.{into_iter_items}
use Rattle.bump_store.specs.Lanes.{lane_rings}
use Rattle.store_trace.specs.Pairs.{lanes_of}
use Rattle.store_trace.specs.Slots.{slot_rings}
use Rattle.store_trace.proofs.parting.part.Given as goal

-- those that were parted are of the same rings, and with those still to come they are all
abbrev pub invariant-loop-pair : goal.invariant-loop-pair
invariant-loop-pair g l = record {
  count : length l.slots.items + length (into_iter_items l.pair-iterator) ≡ length l.fn.pairs.items;
  rings : slot_rings l.slots.items ≡ lane_rings l.lanes.items;
  lanes : l.lanes.items ++ lanes_of (into_iter_items l.pair-iterator) ≡ lanes_of l.fn.pairs.items;
}
