use Rattle.std.proofs.Common.{◌≡◌, ◌+◌, ◌++◌, length}
use Rattle.std.specs.List.{All}
use Rattle.std.specs.Vec.Iter.{into_iter_items}
use Rattle.store_trace.specs.Dealing.{group_lanes}
use Rattle.store_trace.specs.Jobs.{drainer_lanes, drainer_shares, shares_of}
use Rattle.store_trace.proofs.Shares.{next_share}
use Rattle.store_trace.proofs.crossing.start_drainers.Given as goal

-- those that were started, and those that are still to come
abbrev pub invariant-loop-lanes : goal.invariant-loop-lanes
invariant-loop-lanes g l = record {
  lanes : drainer_lanes l.drainers.items ++ group_lanes (into_iter_items l.lanes-iterator) ≡ group_lanes l.fn.groups.items;
  count : length l.drainers.items + length (into_iter_items l.lanes-iterator) ≡ length l.fn.groups.items;
  shares : drainer_shares l.drainers.items ≡ shares_of (length l.drainers.items);
  next : l.share ≡ next_share (length l.drainers.items);
  lines : All (λ drainer. (drainer.handle.promise.store.value ≡ l.store)
      × (drainer.handle.promise.tasks.value.items ≡ l.chores.items)) l.drainers.items;
}
