use Rattle.std.proofs.Common.{◌≡◌, ◌+◌, ◌≤◌, drop}
use Rattle.bump_rules.specs.Totals.{total}
use Rattle.bump_rules.specs.Hands.{is_on}
use Rattle.model_state.specs.Workers.{worker_views}
use Rattle.model_state.proofs.world_state.WorldState.workers_on.Given as goal

-- the count so far, and what the other workers add
abbrev pub invariant-loop-worker : goal.invariant-loop-worker
invariant-loop-worker l = record {
  few : l.count ≤ l.worker-index;
  all : l.count + total (λ w. is_on l.life w.hand) (worker_views (drop l.worker-index l.self.workers))
      ≡ total (λ w. is_on l.life w.hand) (worker_views l.self.workers);
}
