use Rattle.std.proofs.Common.{◌≡◌, ◌≤◌, ◌+◌, ◌++◌, length, map, option_map}
use Rattle.std.specs.Vec.Iter.{into_iter_items}
use Rattle.bump_handles.specs.Opening.{all_there, drainers_of}
use Rattle.bump_handles.proofs.opening.make_lanes.Given as goal

-- those that were made, and those that are still to come
abbrev pub invariant-loop-raw : goal.invariant-loop-raw
invariant-loop-raw g l = record {
  made : map (option_map (λ b. b.value)) l.all.items ++ all_there (drainers_of l.fn.store l.starts (into_iter_items l.raw-iterator))
      ≡ all_there (drainers_of l.fn.store l.starts l.fn.lanes.items);
  tokens : l.number + length (into_iter_items l.raw-iterator) ≤ length l.tokens;
}
