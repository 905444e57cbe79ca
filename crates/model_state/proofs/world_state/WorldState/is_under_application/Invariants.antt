use Rattle.std.proofs.Common.{◌≡◌, drop}
use Rattle.std.specs.List.{list_any}
use Rattle.model_state.specs.State.{applies_in}
use Rattle.model_state.specs.Views.{state_of}
use Rattle.model_state.specs.Workers.{worker_views}
use Rattle.model_state.proofs.world_state.WorldState.is_under_application.Given as goal

-- no lane so far applies a bump of the class
abbrev pub invariant-loop-worker : goal.invariant-loop-worker
invariant-loop-worker l = list_any (λ w. applies_in (state_of l.self) l.class w.lane) (worker_views l.self.workers)
    ≡ list_any (λ w. applies_in (state_of l.self) l.class w.lane) (worker_views (drop l.worker-index l.self.workers))
