-- What contracts see of workers.
use Rattle.std.specs.Prelude.{◌≡◌, List, length, map}
use Rattle.bump_rules.specs.declared.hands.Hand.TheVariants.{Idle}
use Rattle.bump_steps.specs.declared.views.WorkerSheet.{WorkerSheet}
use Rattle.bump_ring.specs.Ends.{Ring, SenderView}

-- a worker between two calls
pub record WorkerState : Type 0 where
  -- what its seat knows: its number, its accounts, the lives that it hit first, and the steps that it made
  pub sheet : WorkerSheet
  -- its ring, and what that accepted
  pub sender : SenderView

-- What each worker keeps between two calls.
pub record IsWorker (worker : WorkerState) : Type 0 where
  -- no bump is under way
  pub idle : worker.sheet.hand ≡ Idle
  -- accepted bumps are those that the ring took
  pub accepted : worker.sheet.accounts.accepted ≡ length worker.sender.sent

-- which rings workers send into, in order
abbrev pub worker_rings : List WorkerState → List Ring
worker_rings workers = map (λ worker. worker.sender.ring) workers

-- what their seats know
abbrev pub worker_sheets_of : List WorkerState → List WorkerSheet
worker_sheets_of workers = map (λ worker. worker.sheet) workers
