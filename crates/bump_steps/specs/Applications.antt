-- The steps of an application, made by a class's seat with the lane's joined to it. A step made for a bump reads the
-- bump off the view: the lane that is joined.
use Rattle.std.specs.Prelude.{◌≡◌, ℕ, ◌-◌, ◌^◌, ◌<◌, ◌⊎◌, Bool, true, false, not, List, [], ◌∷◌, ◌++◌, Option, Some}
use Rattle.std.specs.Prelude.{None}
use Rattle.bump_rules.specs.declared.items.ItemId.{ItemId}
use Rattle.bump_rules.specs.declared.places.Segment.{Segment}
use Rattle.bump_rules.specs.declared.places.Segment.TheVariants.{Warm, Cold}
use Rattle.bump_rules.specs.declared.history.Cause.TheVariants as cause
use Rattle.bump_rules.specs.declared.history.Change.{Change}
use Rattle.bump_rules.specs.declared.history.Change.TheVariants as change
use Rattle.bump_rules.specs.declared.bumps.Bump.{Bump}
use Rattle.bump_rules.specs.declared.bumps.Outcome.{Outcome}
use Rattle.bump_rules.specs.declared.bumps.AppliedBump.{AppliedBump}
use Rattle.bump_rules.specs.declared.lanes.LaneStage.{LaneStage}
use Rattle.bump_rules.specs.declared.lanes.LaneStage.TheVariants as lane
use Rattle.bump_rules.specs.History.{place_of}
use Rattle.bump_rules.specs.Lanes.{applied_bump}
use Rattle.bump_rules.specs.Lives.{life}
use Rattle.bump_rules.specs.Tables.{may_move}
use Rattle.bump_rules.specs.Entries.{is_moved}
use Rattle.bump_steps.specs.declared.views.Kind.{Kind}
use Rattle.bump_steps.specs.declared.views.Kind.TheVariants as kind
use Rattle.bump_steps.specs.declared.views.ClassSheet.{ClassSheet}
use Rattle.bump_steps.specs.declared.views.LaneSheet.{LaneSheet}
use Rattle.bump_steps.specs.declared.views.Ride.{Ride}
use Rattle.bump_steps.specs.declared.views.View.{View}
use Rattle.bump_steps.specs.Views.{bump_aboard, active_clear, owns, standing, evidence}
use Rattle.bump_word.specs.Layout.{active_first}
use Rattle.bump_steps.specs.Lives.{alone}
use Rattle.bump_steps.specs.Rule.{blank}
use Rattle.bump_steps.specs.Plays.{Tells, Found, Told, on_first, step_of}

-- the bump for which a step is made, by its lane
abbrev pub bump_for : ℕ → Option Bump → Option (ℕ × ℕ)
bump_for worker None = None
bump_for worker (Some bump) = Some (worker, bump.number)

abbrev pub for_bump : LaneSheet → Option (ℕ × ℕ)
for_bump this_lane = bump_for this_lane.worker (bump_aboard this_lane.stage)

abbrev pub for_first : List LaneSheet → Option (ℕ × ℕ)
for_first [] = None
for_first (this_lane ∷ ls) = for_bump this_lane

abbrev pub stage_after_try : LaneStage → LaneStage
stage_after_try (lane.Carrying bump) = lane.Tried bump
stage_after_try stage = stage

abbrev pub lane_after_try : ℕ → ℕ → LaneSheet → LaneSheet
lane_after_try chunk word this_lane = record this_lane {
  stage = stage_after_try this_lane.stage;
  steps =
      this_lane.steps ++ step_of kind.Try chunk word (for_bump this_lane) ∷ [];
}

abbrev pub view_after_try : ℕ → ℕ → View → View
view_after_try chunk word view = record view { lanes = on_first (lane_after_try chunk word) view.lanes }

abbrev pub stage_after_clear_active : Bool → LaneStage → LaneStage
stage_after_clear_active found (lane.Tried bump) = lane.Cleared bump found
stage_after_clear_active found stage = stage

abbrev pub lane_after_clear_active : Bool → LaneSheet → LaneSheet
lane_after_clear_active found this_lane = record this_lane { stage = stage_after_clear_active found this_lane.stage }

abbrev pub noted_class : Kind → ℕ → ℕ → List LaneSheet → ClassSheet → ClassSheet
noted_class kind chunk word ls class =
    record class { steps = class.steps ++ step_of kind chunk word (for_first ls) ∷ [] }

abbrev pub view_after_clear_active : ℕ → ℕ → View → View
view_after_clear_active chunk word view =
    record view {
      classes = on_first (noted_class kind.ClearActive chunk word view.lanes) view.classes;
      lanes =
          on_first (lane_after_clear_active (not (active_clear word))) view.lanes;
    }

abbrev pub view_after_put_time : ℕ → ℕ → View → View
view_after_put_time chunk word view =
    record view { classes = on_first (noted_class kind.PutTime chunk word view.lanes) view.classes }

-- the lane is past its move
abbrev pub stage_after_move : LaneStage → LaneStage
stage_after_move (lane.Cleared bump found) = lane.Moved bump
stage_after_move stage = stage

abbrev pub lane_after_move : LaneSheet → LaneSheet
lane_after_move this_lane = record this_lane { stage = stage_after_move this_lane.stage }

-- the entry of a move: of the life of the bump aboard, for this bump, or else of life x, for a pull
abbrev pub change_of_move_for : ItemId → Segment → Segment → ℕ → Option Bump → Change
change_of_move_for item from to worker None = change.Moved item from to cause.Pull
change_of_move_for item from to worker (Some bump) = change.Moved bump.life from to (cause.Bump worker bump.number)

abbrev pub change_of_move : ItemId → Segment → Segment → List LaneSheet → Change
change_of_move item from to [] = change.Moved item from to cause.Pull
change_of_move item from to (this_lane ∷ ls) = change_of_move_for item from to this_lane.worker
    (bump_aboard this_lane.stage)

-- the life that the class has in the chunk
abbrev pub life_in : ClassSheet → ℕ → ItemId
life_in class chunk = life chunk (standing class chunk).1

-- the application in progress of a lane at this stage: one that is past its move
abbrev pub application_of : ℕ → LaneStage → Option Ride
application_of worker lane.Empty = None
application_of worker (lane.Carrying bump) = None
application_of worker (lane.Tried bump) = None
application_of worker (lane.Cleared bump found) = None
application_of worker (lane.Moved bump) = Some (record { worker = worker; number = bump.number; life = bump.life })

-- a class names it from the move on; a pull names nothing new
abbrev pub applying_after_move : List LaneSheet → Option Ride → Option Ride
applying_after_move [] named = named
applying_after_move (this_lane ∷ ls) named = application_of this_lane.worker (stage_after_move this_lane.stage)

abbrev pub class_after_move : Segment → Segment → ℕ → ℕ → List LaneSheet → ClassSheet → ClassSheet
class_after_move from to chunk word ls class =
    record class {
      history = class.history ++ change_of_move (life_in class chunk) from to ls ∷ [];
      applying = applying_after_move ls class.applying;
      steps =
          class.steps ++ step_of kind.Move chunk word (for_first ls) ∷ [];
    }

abbrev pub view_after_move : Segment → Segment → ℕ → ℕ → View → View
view_after_move from to chunk word view =
    record view {
      classes = on_first (class_after_move from to chunk word view.lanes) view.classes;
      lanes =
          on_first lane_after_move view.lanes;
    }

abbrev pub try_tells : Tells
try_tells chunk operand before word after = (after ≡ (view_after_try chunk word before.0, before.1))
    × Found word (Told chunk before.0)

-- an and with all bits but ACTIVE
abbrev pub clear_active_tells : Tells
clear_active_tells chunk operand before word after = (operand ≡ 2 ^ 64 - 1 - 2 ^ active_first)
    × (after ≡ (view_after_clear_active chunk word before.0, before.1)) × Found word (Told chunk before.0)

abbrev pub put_time_tells : Tells
put_time_tells chunk operand before word after = after ≡ (view_after_put_time chunk word before.0, before.1)

abbrev pub move_tells : Segment → Segment → Tells
move_tells from to chunk operand before word after = (after ≡ (view_after_move from to chunk word before.0, before.1))
    × Found word (Told chunk before.0)

-- the entry of the bump aboard with this outcome
abbrev pub entries_of_alight : Outcome → Option Bump → List AppliedBump
entries_of_alight ending None = []
entries_of_alight ending (Some bump) = record { number = bump.number; life = bump.life; outcome = ending } ∷ []

abbrev pub lane_after_alight : Outcome → ℕ → ℕ → LaneSheet → LaneSheet
lane_after_alight ending chunk word this_lane =
    record this_lane {
      stage = lane.Empty;
      applied = this_lane.applied ++ entries_of_alight ending
          (bump_aboard this_lane.stage);
      steps = this_lane.steps ++ step_of kind.Alight chunk word (for_bump this_lane)
          ∷ [];
    }

-- no application is in progress
abbrev pub class_at_rest : ClassSheet → ClassSheet
class_at_rest class = record class { applying = None }

abbrev pub view_after_alight : Outcome → ℕ → ℕ → View → View
view_after_alight ending chunk word view =
    record view {
      classes = on_first class_at_rest view.classes;
      lanes = on_first (lane_after_alight ending chunk word) view.lanes;
    }

abbrev pub alight_tells : Outcome → Tells
alight_tells ending chunk operand before word after =
    (after ≡ (view_after_alight ending chunk word before.0, before.1)) × Found word (Told chunk before.0)

-- a class, and the lane that is joined to it
abbrev pub applying : ClassSheet → LaneSheet → View
applying class this_lane = record blank { classes = class ∷ []; lanes = this_lane ∷ [] }

-- the lane that is joined carries a bump of this chunk, which is the class's
pub record Fronts (here : ℕ) (seat : View) (class : ClassSheet) (this_lane : LaneSheet) (bump : Bump) : Type 0 where
  pub view : seat ≡ applying class this_lane
  pub stage : this_lane.stage ≡ lane.Carrying bump
  pub chunk : bump.life.chunk ≡ here
  pub own : owns here class ≡ true

abbrev pub MayTry : ℕ → View → Type 0
MayTry chunk view = (k : ClassSheet) × (l : LaneSheet) × (b : Bump) × Fronts chunk view k l b

-- the chunk is the class's, and stands in this segment's list
abbrev pub StandsIn : Segment → ℕ → ClassSheet → Type 0
StandsIn from chunk class = (owns chunk class ≡ true) × ((standing class chunk).0 ≡ place_of from)

-- no lane is joined, the chunk stands where it is moved from, and the tail table has such a move
pub record MovesByPull (from to : Segment) (chunk : ℕ) (seat : View) (class : ClassSheet) : Type 0 where
  pub view : seat ≡ alone class
  pub stands : StandsIn from chunk class
  pub may : may_move from to ≡ true

-- ACTIVE was found and cleared for the bump aboard, which is of this chunk, and the chunk is moved from COLD to WARM
pub record MovesForBump (from to : Segment) (here : ℕ) (seat : View) (class : ClassSheet) (this_lane : LaneSheet)
    (bump : Bump) : Type 0 where
  pub view : seat ≡ applying class this_lane
  pub stage : this_lane.stage ≡ lane.Cleared bump true
  pub named : class.applying ≡ None
  pub chunk : bump.life.chunk ≡ here
  pub stands : StandsIn from here class
  pub from_cold : from ≡ Cold
  pub to_warm : to ≡ Warm

abbrev pub MayMove : Segment → Segment → ℕ → View → Type 0
MayMove from to chunk view = ((k : ClassSheet) × MovesByPull from to chunk view k) ⊎
    ((k : ClassSheet) × (l : LaneSheet) × (b : Bump) × MovesForBump from to chunk view k l b)

abbrev pub is_past_move : LaneStage → Bool
is_past_move (lane.Moved bump) = true
is_past_move stage = false

-- the bump aboard, of this chunk, can end with this outcome: its item was moved exactly where the outcome is Moved, and
-- the entry is true by the two sheets alone
pub record Alights (here : ℕ) (ending : Outcome) (seat : View) (class : ClassSheet) (this_lane : LaneSheet)
    (bump : Bump) : Type 0 where
  pub view : seat ≡ applying class this_lane
  pub aboard : bump_aboard this_lane.stage ≡ Some bump
  pub chunk : bump.life.chunk ≡ here
  pub past : is_past_move this_lane.stage ≡ is_moved ending
  pub named : class.applying ≡ application_of this_lane.worker this_lane.stage
  pub proof : 0 < evidence this_lane.worker (applied_bump bump ending) (applying class this_lane)

abbrev pub MayAlight : ℕ → Outcome → View → Type 0
MayAlight chunk ending view = (k : ClassSheet) × (l : LaneSheet) × (b : Bump) × Alights chunk ending view k l b
