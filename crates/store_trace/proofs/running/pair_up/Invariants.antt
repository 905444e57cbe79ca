use Rattle.std.proofs.Common.{◌≡◌, ◌+◌, length}
use Rattle.std.specs.Vec.Iter.{into_iter_items}
use Rattle.bump_unlocked.specs.Workers.{worker_rings}
use Rattle.bump_store.specs.Lanes.{lane_rings}
use Rattle.store_trace.proofs.running.pair_up.Given as goal

-- the workers and the lanes still to come are of the same rings, and with the pairs the workers are all
abbrev pub invariant-loop-worker : goal.invariant-loop-worker
invariant-loop-worker g l = record {
  count : length l.pairs.items + length (into_iter_items l.worker-iterator) ≡ length l.fn.workers.items;
  rings : worker_rings (into_iter_items l.worker-iterator) ≡ lane_rings (into_iter_items l.left);
}
