use Rattle.std.proofs.Common.{◌≡◌, ◌++◌, All}
use Rattle.std.specs.Vec.Iter.{into_iter_items}
use Rattle.bump_store.specs.Lanes.{NothingAboard, lanes_of}
use Rattle.bump_store.proofs.opening.make_lanes.Given as goal

-- those that were made, and those that are still to come
abbrev pub invariant-loop-raw : goal.invariant-loop-raw
invariant-loop-raw g l = record {
  made : l.lanes.items ++ lanes_of l.fn.capacity (into_iter_items l.raw-iterator) ≡ lanes_of l.fn.capacity l.fn.raws.items;
  idle : All NothingAboard (into_iter_items l.raw-iterator);
}
