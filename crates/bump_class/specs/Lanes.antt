-- What contracts see of a lane: the ring that it drains, and its sheet. And what every lane keeps.
use Rattle.std.specs.Prelude.{◌≡◌, ℕ, ◌<◌, ◌≤◌, ◌↔◌, ◌++◌, List, [], ◌∷◌, length, map, Option, Some, None}
use Rattle.std.specs.Prelude.{IsNone, IsSome, IfSome, IfNone, Bool, true, false}
use Rattle.bump_rules.specs.declared.bumps.AppliedBump.{AppliedBump}
use Rattle.bump_rules.specs.declared.bumps.Bump.{Bump}
use Rattle.bump_rules.specs.declared.items.ItemId.{ItemId}
use Rattle.bump_rules.specs.declared.lanes.LaneStage.TheVariants.{Empty}
use Rattle.bump_rules.specs.Lanes.{carried, is_half_made}
use Rattle.bump_rules.specs.Rings.{aboard, bump_applied, numbered_from, most_attempts}
use Rattle.bump_steps.specs.declared.views.LaneSheet.{LaneSheet}
use Rattle.bump_steps.specs.declared.views.Ride.{Ride}
use Rattle.bump_steps.specs.Riders.{applied_by, lane_after_board, bump_of_ride}
use Rattle.bump_heads.specs.Applying.{stage_of}
use Rattle.bump_heads.specs.Seats.{no_lane}
use Rattle.bump_rules.specs.Configs.{most_workers}
use Rattle.bump_ring.specs.Ends.{Ring, ClosedView}

-- What contracts see of a lane.
pub record LaneView : Type 0 where
  -- which ring it drains
  pub ring : Ring
  -- the bumps that were taken from the ring, in order
  pub received : List Ride
  -- the bumps that the next takes give, in order, as far as they are known
  pub known : List Ride
  -- what its seat knows
  pub sheet : LaneSheet

-- the bump that it carries, if any
abbrev pub carries : LaneView → Option Bump
carries lane = carried lane.sheet.stage

-- the bumps that it applied, in order
abbrev pub entries : LaneView → List AppliedBump
entries lane = lane.sheet.applied

-- the lives of bumps, in order
abbrev pub lives : List Ride → List ItemId
lives rides = map (λ ride. ride.life) rides

-- What every lane keeps, as each lane of a World does.
pub record IsRawLane (sheet : LaneSheet) (received : List Ride) : Type 0 where
  -- what was applied, followed by the bump aboard, is what was received, and the numbers are 0, 1, 2 and so on
  pub in_order : map bump_applied sheet.applied ++ aboard sheet.stage ≡ numbered_from 0 (lives received)
  -- no bump is half applied
  pub at_rest : is_half_made sheet.stage ≡ false

-- the sheet of a lane's seat that is whole
abbrev pub sheet_or : Option LaneSheet → LaneSheet
sheet_or None = no_lane
sheet_or (Some this_lane) = this_lane

-- What the type of a lane keeps, by what its seat knows, its worker's number, its count and what it received.
pub record KeepsLane (seat : Option LaneSheet) (worker count : ℕ) (received : List Ride) : Type 0 where
  -- its seat is whole
  pub whole : seat ≡ Some (sheet_or seat)
  -- it is this worker's
  pub worker_is : (sheet_or seat).worker ≡ worker
  pub worker_few : worker < most_workers
  -- its count is that of the bumps that it applied
  pub counted : count ≡ length (sheet_or seat).applied
  pub lane : IsRawLane (sheet_or seat) received
  -- and one more has a number too
  pub few : IfSome (carried (sheet_or seat).stage) (λ bump. count < most_attempts)

-- What a new lane is made of: nothing was taken from the ring, and nothing boarded the seat.
pub record AreUnused (received : List Ride) (seat : Option LaneSheet) : Type 0 where
  pub untaken : received ≡ []
  pub whole : IsSome seat
  pub empty : stage_of seat ≡ Empty
  pub fresh : applied_by seat ≡ []

-- a lane whose bumps wait in this ring, with nothing aboard
abbrev pub new_lane : Ring → List Ride → LaneSheet → LaneView
new_lane ring known sheet = record { ring = ring; received = []; known = known; sheet = sheet }

-- The bump that a lane keeps aboard between two calls, where it says that it keeps one: its number is that of the bumps
-- that were applied before it.
abbrev pub kept_aboard : Bool → ℕ → ItemId → Option Bump
kept_aboard true number life = Some (record { number = number; life = life })
kept_aboard false number life = None

-- What it means that the next bump goes aboard.
pub record Boards (before : LaneView) (bump : Bump) (after : LaneView) (ride : Ride) : Type 0 where
  -- it is the next that was taken, and has the next number
  pub bump_taken : bump ≡ bump_of_ride ride
  pub number : bump.number ≡ length before.received
  -- where bumps were known, it is the first of them, and where none was, none is
  pub first_known : 0 < length before.known → before.known ≡ ride ∷ after.known
  pub none_known : before.known ≡ [] → after.known ≡ []
  pub lane : after ≡ record before {
    received = before.received ++ ride ∷ [];
    known = after.known;
    sheet = lane_after_board bump before.sheet;
  }

-- What a lane tells and leaves that is to have its next bump aboard.
pub record TellsAboard (before : LaneView) (answer : Option Bump) (after : LaneView) : Type 0 where
  -- it drains the same ring
  pub ring : after.ring ≡ before.ring
  -- and has the same entries
  pub kept : entries after ≡ entries before
  -- what is aboard is told
  pub told : carries after ≡ answer
  -- where nothing is, no bump is known
  pub none : IfNone answer (before.known ≡ [])
  -- and nothing is changed
  pub unchanged : IfNone answer (after ≡ before)

-- What a lane tells and leaves that is asked how many bumps are left, by the closed sender of its ring.
pub record TellsLeft (sender : ClosedView) (before : LaneView) (answer : Option ℕ) (sender_after : ClosedView)
    (after : LaneView) : Type 0 where
  -- the sender stays
  pub closed : sender_after ≡ sender
  -- the lane knows of more bumps, and nothing else is changed
  pub lane : after ≡ record before { known = after.known }
  -- so many are known
  pub number : IfSome answer (λ left. left ≡ length after.known)
  -- all that was sent is what was received, and what is known
  pub rest : IfSome answer (λ left. sender.sent ≡ after.received ++ after.known)
  -- they are not more than the ring has room for
  pub few : IfSome answer (λ left. left ≤ sender.capacity)
  -- none is told exactly where the sender can't show the ring's end
  pub none : IsNone answer ↔ (sender.shows_end ≡ false)
  -- and nothing is changed then
  pub unchanged : IfNone answer (after ≡ before)
