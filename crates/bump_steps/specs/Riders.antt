-- Bumps that travel, and that board.
use Rattle.std.specs.Prelude.{List, [], ◌∷◌, Option, None, Some, length}
use Rattle.atomic_table.specs.Table.{Me}
use Rattle.bump_rules.specs.declared.bumps.Bump.{Bump}
use Rattle.bump_rules.specs.declared.lanes.LaneStage.TheVariants as lane
use Rattle.bump_rules.specs.declared.bumps.AppliedBump.{AppliedBump}
use Rattle.bump_steps.specs.declared.views.Empty.{Empty}
use Rattle.bump_steps.specs.declared.views.Ride.{Ride}
use Rattle.bump_steps.specs.declared.views.LaneSheet.{LaneSheet}
use Rattle.bump_steps.specs.declared.views.View.{View}
use Rattle.bump_steps.specs.Rule.{blank}
use Rattle.bump_steps.specs.Plays.{on_first}

abbrev pub ride_me : Ride → Me Empty View
ride_me ride = (record blank { riders = ride ∷ [] }, [])

-- the view of a lane's seat
abbrev pub lane_me : LaneSheet → Me Empty View
lane_me this_lane = (record blank { lanes = this_lane ∷ [] }, [])

abbrev pub bump_of_ride : Ride → Bump
bump_of_ride ride = record { number = ride.number; life = ride.life }

abbrev pub lane_after_board : Bump → LaneSheet → LaneSheet
lane_after_board bump this_lane = record this_lane { stage = lane.Carrying bump }

abbrev pub applied_by : Option LaneSheet → List AppliedBump
applied_by None = []
applied_by (Some this_lane) = this_lane.applied

-- the rider's life goes aboard the first lane; there its number is that of bumps that the lane boarded before
abbrev pub aboard_next : Ride → LaneSheet → LaneSheet
aboard_next ride this_lane =
    record this_lane { stage = lane.Carrying (record { number = length this_lane.applied; life = ride.life }) }

abbrev pub board_lanes : List Ride → List LaneSheet → List LaneSheet
board_lanes [] ls = ls
board_lanes (ride ∷ rs) ls = on_first (aboard_next ride) ls

-- how a rider's view joins a lane's
abbrev pub board_both : View → View → View
board_both view other = record view { lanes = board_lanes other.riders view.lanes }
