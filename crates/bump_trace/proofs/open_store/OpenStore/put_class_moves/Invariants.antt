use Rattle.std.proofs.Common.{◌≡◌, ◌-◌, ◌++◌}
use Rattle.std.specs.List.{flat_map}
use Rattle.bump_rules.specs.Lists.{ascending}
use Rattle.bump_trace.specs.Shows.{moves_line_of}
use Rattle.bump_trace.proofs.open_store.OpenStore.put_class_moves.Given as goal

-- the text so far, and that of the others
abbrev pub invariant-loop-worker : goal.invariant-loop-worker
invariant-loop-worker l =
    l.out.items ++ flat_map (moves_line_of l.self.world l.class) (ascending l.worker (l.worker-end - l.worker)) ≡ l.fn.out.items ++ flat_map (moves_line_of l.self.world l.class) (ascending 0 l.worker-end)
