use Rattle.std.proofs.Common.{◌≡◌}
use Rattle.std.specs.Prelude.{replicate}
use Rattle.model_state.specs.State.{new_worker}
use Rattle.model_state.specs.Workers.{worker_views}
use Rattle.model_state.proofs.workers.Workers.new.Given as goal

-- so many workers so far
abbrev pub invariant-loop : goal.invariant-loop
invariant-loop l = worker_views l.all.items ≡ replicate l.counter new_worker
