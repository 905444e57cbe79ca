use Rattle.std.proofs.Common.{◌≡◌, ◌≤◌, ◌+◌, ◌++◌, length, map, option_map}
use Rattle.std.specs.Arc.{arc_value}
use Rattle.std.specs.Vec.Iter.{into_iter_items}
use Rattle.bump_rules.specs.Configs.{most_workers}
use Rattle.bump_handles.specs.Opening.{all_there, readers_of}
use Rattle.bump_handles.proofs.opening.make_readers.Given as goal

-- those that were made, and those that are still to come
abbrev pub invariant-loop-worker : goal.invariant-loop-worker
invariant-loop-worker g l = record {
  made : map (option_map (λ b. b.value)) l.readers.items ++ all_there (readers_of l.fn.store (arc_value l.fn.heads) l.fn.places l.number (into_iter_items l.worker-iterator))
      ≡ all_there (readers_of l.fn.store (arc_value l.fn.heads) l.fn.places 0 l.fn.workers.items);
  few : l.number + length (into_iter_items l.worker-iterator) ≤ most_workers;
  tokens : l.number + length (into_iter_items l.worker-iterator) ≤ length l.tokens;
}
