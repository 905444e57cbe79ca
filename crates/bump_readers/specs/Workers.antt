-- Workers' seats that are made.
use Rattle.std.specs.Prelude.{◌≡◌, ℕ, ◌+◌, List, [], ◌∷◌, None}
use Rattle.bump_steps.specs.declared.views.WorkerSheet.{WorkerSheet}
use Rattle.bump_steps.specs.Rule.{worker_sheet}
use Rattle.bump_readers.specs.declared.views.WorkerView.{WorkerView}

-- a sheet to which no hold is joined
abbrev pub worker_seen : WorkerSheet → WorkerView
worker_seen worker = record { sheet = worker; hold = None }

-- new workers, numbered from n on: idle, without a first hit, a step or a bump
abbrev pub AreNewWorkers : ℕ → List WorkerSheet → Type 0
AreNewWorkers number [] = Unit {0}
AreNewWorkers number (worker ∷ ws) = (worker ≡ worker_sheet number) × AreNewWorkers (number + 1) ws
