use Rattle.std.proofs.Common.{◌≡◌, ◌-◌, ◌*◌, ◌≤◌}
use Rattle.bump_rules.specs.Lists.{ascending}
use Rattle.bump_trace.specs.OpenStore.{drained_both, drained_through}
use Rattle.bump_trace.specs.Ready.{IsReady}
use Rattle.bump_trace.proofs.Draining.{so_far}
use Rattle.bump_trace.proofs.open_store.OpenStore.drain.Given as goal

-- the bumps of the workers so far, and then those of the others, are all
abbrev pub invariant-loop-worker : goal.invariant-loop-worker
invariant-loop-worker l =
    (drained_both (so_far l.self.world l.out.items l.count) (drained_through l.now (ascending l.worker (l.worker-end - l.worker)) l.self.world) ≡ drained_through l.now (ascending 0 l.worker-end) l.fn.self.world)
    × (l.self ≡ record l.fn.self { world = l.self.world }) × IsReady l.self × (l.count ≤ l.worker * 4294967296)
