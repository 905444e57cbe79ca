-- The sheets of new workers and lanes.
use Rattle.std.proofs.Common.{◌≡◌, ℕ, suc, ◌+◌, ◌-◌, ◌<◌, List, ◌∷◌, length, ap, arith}
use Rattle.std.proofs.lemmas.List.{length-map}
use Rattle.bump_steps.specs.Rule.{worker_sheet, worker_sheets, lane_sheet, lane_sheets}
use Rattle.bump_readers.proofs.WorkerTurns.{length_workers}
use Rattle.bump_heads.proofs.Makings.{length_lanes}
use Rattle.bump_class.specs.Lanes.{LaneView}
use Rattle.bump_unlocked.specs.UnlockedStore.{raw_sheets_of}
use Rattle.bump_unlocked.specs.Workers.{WorkerState, worker_sheets_of}

-- the first of those that are still to be made
pub next_worker : (number count : ℕ) → number < count
    → worker_sheets number (count - number) ≡ worker_sheet number ∷ worker_sheets (number + 1) (count - (number + 1))
next_worker number count low =
    let more : count - number ≡ suc (count - (number + 1)) = omega (arith, low) in ap (worker_sheets number) more

pub next_lane : (number count : ℕ) → number < count
    → lane_sheets number (count - number) ≡ lane_sheet number ∷ lane_sheets (number + 1) (count - (number + 1))
next_lane number count low =
    let more : count - number ≡ suc (count - (number + 1)) = omega (arith, low) in ap (lane_sheets number) more

-- so many workers have the sheets of so many, and so many lanes
pub count_of_workers : (count : ℕ) (workers : List WorkerState) → worker_sheets_of workers ≡ worker_sheets 0 count
    → length workers ≡ count
count_of_workers count workers are =
    omega (arith, ap length are, length-map workers (λ (x : WorkerState). x.sheet), length_workers 0 count)

pub count_of_lanes : (count : ℕ) (lanes : List LaneView) → raw_sheets_of lanes ≡ lane_sheets 0 count → length lanes ≡ count
count_of_lanes count lanes are =
    omega (arith, ap length are, length-map lanes (λ (x : LaneView). x.sheet), length_lanes 0 count)
