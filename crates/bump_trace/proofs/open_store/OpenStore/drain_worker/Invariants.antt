use Rattle.std.proofs.Common.{◌≡◌, ℕ, ◌-◌, ◌≤◌, ◌++◌, List}
use Rattle.bump_trace.specs.OpenStore.{drained_both, drained_of}
use Rattle.bump_trace.specs.Ready.{IsReady}
use Rattle.bump_trace.proofs.Draining.{so_far}
use Rattle.bump_trace.proofs.open_store.OpenStore.drain_worker.Given as goal

-- the bumps so far, and then those that may follow, are all
abbrev pub invariant-loop : goal.invariant-loop
invariant-loop l =
    (text : List ℕ) × (l.out.items ≡ l.fn.out.items ++ text)
    × (drained_both (so_far l.self.world text l.count) (drained_of l.now l.worker (l.end - l.counter) l.self.world) ≡ drained_of l.now l.worker l.end l.fn.self.world)
    × (l.self ≡ record l.fn.self { world = l.self.world }) × IsReady l.self × (l.count ≤ l.counter)
