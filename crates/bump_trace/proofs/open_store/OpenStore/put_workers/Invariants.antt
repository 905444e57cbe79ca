use Rattle.std.proofs.Common.{◌≡◌, ◌-◌, ◌++◌}
use Rattle.std.specs.List.{flat_map}
use Rattle.bump_rules.specs.Lists.{ascending}
use Rattle.bump_trace.specs.Shows.{worker_line}
use Rattle.bump_trace.proofs.open_store.OpenStore.put_workers.Given as goal

-- the text so far, and that of the others
abbrev pub invariant-loop-worker : goal.invariant-loop-worker
invariant-loop-worker l =
    l.out.items ++ flat_map (worker_line l.self.world) (ascending l.worker (l.worker-end - l.worker)) ≡ l.fn.out.items ++ flat_map (worker_line l.self.world) (ascending 0 l.worker-end)
