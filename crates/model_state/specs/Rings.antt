-- What a lawful worker is: its ring, its lane and its accounts.
use Rattle.std.specs.Prelude.{◌≡◌, ℕ, List, ◌++◌, length, map}
use Rattle.bump_rules.specs.declared.items.ItemId.{ItemId}
use Rattle.model_state.specs.State.{WorkerState}
use Rattle.bump_rules.specs.Rings.{left_of, aboard, bump_applied, numbered_from, IsRing, IsAccounts}

-- the bumps in a worker's ring
abbrev pub in_ring : WorkerState → List ItemId
in_ring worker = left_of worker.sent worker.received

pub record IsWorker (capacity : ℕ) (worker : WorkerState) : Type 0 where
  -- its ring is lawful
  pub ring : IsRing capacity worker.sent worker.received
  -- what the lane applied, and then what it carries, is what was received, numbered from 0
  pub applied : map bump_applied worker.applied ++ aboard worker.lane ≡ numbered_from 0 worker.received
  -- its accounts are lawful
  pub accounts : IsAccounts worker.accounts (length worker.sent) worker.hand
