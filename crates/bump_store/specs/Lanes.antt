-- What contracts see of lanes, and what applying the next bump comes to.
use Rattle.std.specs.Prelude.{◌≡◌, ℕ, zero, suc, true, Some, None, List, map}
use Rattle.bump_rules.specs.declared.bumps.Applied.{Applied}
use Rattle.bump_rules.specs.declared.bumps.Applied.TheVariants as applied
use Rattle.bump_rules.specs.declared.bumps.AppliedBump.{AppliedBump}
use Rattle.bump_rules.specs.declared.bumps.Entry.{Entry}
use Rattle.bump_rules.specs.declared.bumps.Outcome.{Outcome}
use Rattle.bump_rules.specs.declared.bumps.Outcome.TheVariants as outcome
use Rattle.bump_rules.specs.Lanes.{bump_of}
use Rattle.bump_steps.specs.declared.views.LaneSheet.{LaneSheet}
use Rattle.bump_steps.specs.declared.views.Ride.{Ride}
use Rattle.bump_steps.specs.Views.{owns}
use Rattle.bump_heads.specs.Applying.{NamesNoBumpTwice}
use Rattle.bump_class.specs.Applications.{AppliesFront, EachMoveIsTold}
use Rattle.bump_class.specs.Books.{BookView}
use Rattle.bump_class.specs.Lanes.{LaneView, Boards, carries}
use Rattle.bump_ring.specs.Ends.{Ring}

-- a lane of a store: its ring with what its seat knows, and how many bumps it applies in one drain
pub record LaneState : Type 0 where
  pub lane : LaneView
  pub capacity : ℕ

-- the lanes of these raw ones, each of which applies so many bumps in one drain
abbrev pub lanes_of : ℕ → List LaneView → List LaneState
lanes_of capacity raws = map (λ raw. record { lane = raw; capacity = capacity }) raws

-- which rings lanes drain, in order
abbrev pub lane_rings : List LaneState → List Ring
lane_rings lanes = map (λ this_lane. this_lane.lane.ring) lanes

-- what their seats know
abbrev pub lane_sheets_of : List LaneState → List LaneSheet
lane_sheets_of lanes = map (λ this_lane. this_lane.lane.sheet) lanes

-- what a lane keeps of what was answered
abbrev pub outcome_told : Applied → Outcome
outcome_told applied.Moved = outcome.Moved
outcome_told applied.TimeOnly = outcome.TimeOnly
outcome_told (applied.Gone ended) = outcome.Gone

abbrev pub applied_bump_of : Entry → AppliedBump
applied_bump_of entry = record { number = entry.number; life = entry.life; outcome = outcome_told entry.applied }

-- no bump is aboard
abbrev pub NothingAboard : LaneView → Type 0
NothingAboard this_lane = carries this_lane ≡ None

-- The bump aboard a lane was applied to a Book, as this entry tells it, and nothing else was done.
pub record AppliesAboard (now : ℕ) (book : BookView) (from : LaneView) (entry : Entry) (left : BookView)
    (to : LaneView) : Type 0 where
  -- the entry is of the bump aboard
  pub aboard : carries from ≡ Some (bump_of entry.number entry.life)
  -- what that comes to is the update table's, and the entry is true
  pub front : AppliesFront now book from entry.applied left to
  -- no bump is named twice by the class's history, and each move that it has for a bump of the lane is the lane's entry
  pub once : NamesNoBumpTwice left.sheet
  pub tells : EachMoveIsTold left.sheet to.sheet

-- The next bump of a lane's ring was applied, as this entry tells it, to a Book that was locked for it.
pub record IsNextApplied (now : ℕ) (before : LaneView) (entry : Entry) (after : LaneView) (ride : Ride)
    (fetched : LaneView) (book left : BookView) : Type 0 where
  -- it was taken out of the ring, and went aboard
  pub boards : Boards before (bump_of entry.number entry.life) fetched ride
  -- the Book is that of its chunk's class
  pub own : owns entry.life.chunk book.sheet ≡ true
  -- and it alone was applied to it
  pub applied : AppliesAboard now book fetched entry left after

abbrev pub AppliesNext : ℕ → LaneView → Entry → LaneView → Type 0
AppliesNext now before entry after = (ride : Ride) × (fetched : LaneView) × (book : BookView) × (left : BookView)
    × IsNextApplied now before entry after ride fetched book left

-- so many next bumps were applied, one after the other
abbrev pub AppliesMany : ℕ → LaneView → ℕ → LaneView → Type 0
AppliesMany now before zero after = after ≡ before
AppliesMany now before (suc count) after = (between : LaneView) × (entry : Entry)
    × AppliesMany now before count between × AppliesNext now between entry after
