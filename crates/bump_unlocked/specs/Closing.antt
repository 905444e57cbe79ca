-- What contracts see of workers whose rings are closed, and of what lanes applied of them.
use Rattle.std.specs.Prelude.{◌≡◌, List, length, map}
use Rattle.bump_rules.specs.declared.hands.Hand.TheVariants.{Idle}
use Rattle.bump_rules.specs.Rings.{bump_applied, numbered_from}
use Rattle.bump_steps.specs.declared.views.Ride.{Ride}
use Rattle.bump_steps.specs.declared.views.WorkerSheet.{WorkerSheet}
use Rattle.bump_class.specs.Lanes.{LaneView, entries, lives}
use Rattle.bump_ring.specs.Ends.{ClosedView}

-- a worker whose ring is closed
pub record ClosedState : Type 0 where
  -- what its seat knew when the ring was closed: its number, its accounts, and the steps that it made
  pub sheet : WorkerSheet
  -- its ring, and all that it accepted
  pub sender : ClosedView

-- What each closed worker keeps.
pub record IsClosedWorker (worker : ClosedState) : Type 0 where
  -- no bump is under way
  pub idle : worker.sheet.hand ≡ Idle
  -- accepted bumps are those that the ring took
  pub accepted : worker.sheet.accounts.accepted ≡ length worker.sender.sent

-- What a lane applied is these bumps, once each and in order, with the numbers 0, 1, 2 and so on. Of all that its ring
-- accepted it is what a World promises of each lane, where nothing is aboard and nothing is left in the ring.
abbrev pub AppliedAll : List Ride → LaneView → Type 0
AppliedAll bumps this_lane = map bump_applied (entries this_lane) ≡ numbered_from 0 (lives bumps)
