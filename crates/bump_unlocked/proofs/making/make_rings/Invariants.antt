use Rattle.std.proofs.Common.{◌≡◌, ◌++◌, ◌-◌, map, All}
use Rattle.std.specs.Vec.Iter.{into_iter_items}
use Rattle.bump_heads.specs.Making.{lane_seen}
use Rattle.bump_readers.specs.Workers.{worker_seen}
use Rattle.bump_steps.specs.Rule.{worker_sheets, lane_sheets}
use Rattle.bump_unlocked.specs.UnlockedStore.{raw_rings, raw_sheets_of}
use Rattle.bump_unlocked.specs.Workers.{worker_rings, worker_sheets_of}
use Rattle.bump_unlocked.proofs.making.make_rings.Given as goal

abbrev pub invariant-loop-number : goal.invariant-loop-number
invariant-loop-number g l = record {
  seats : into_iter_items l.left ≡ map worker_seen (worker_sheets l.number (l.fn.count - l.number));
  lane_seats : into_iter_items l.lanes_left ≡ map lane_seen (lane_sheets l.number (l.fn.count - l.number));
  workers : worker_sheets_of l.workers.items ++ worker_sheets l.number (l.fn.count - l.number) ≡ worker_sheets 0 l.fn.count;
  lanes : raw_sheets_of l.lanes.items ++ lane_sheets l.number (l.fn.count - l.number) ≡ lane_sheets 0 l.fn.count;
  rings : worker_rings l.workers.items ≡ raw_rings l.lanes.items;
  capacity : All (λ x. x.sender.capacity ≡ l.fn.capacity) l.workers.items;
}
