use Rattle.std.proofs.Common.{◌≡◌, ◌-◌, ◌++◌}
use Rattle.std.specs.List.{flat_map}
use Rattle.bump_rules.specs.Lists.{ascending}
use Rattle.bump_trace.specs.Shows.{class_moves}
use Rattle.bump_trace.proofs.open_store.OpenStore.put_all_moves.Given as goal

-- the text so far, and that of the others
abbrev pub invariant-loop-class : goal.invariant-loop-class
invariant-loop-class l =
    l.out.items ++ flat_map (class_moves l.self.world) (ascending l.class (l.class-end - l.class)) ≡ l.fn.out.items ++ flat_map (class_moves l.self.world) (ascending 0 l.class-end)
