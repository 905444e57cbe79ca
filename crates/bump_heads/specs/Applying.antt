-- The steps under a class's lock, as the contracts of the class's seat tell them: without a lane they are made for a
-- link or a pull, and with a lane joined for the bump aboard it.
use Rattle.std.specs.Prelude.{◌≡◌, ℕ, ◌+◌, ◌<◌, ◌≤◌, ◌&&◌, not, if◌then◌else◌, Bool, true, false, List, [], ◌∷◌, ◌++◌}
use Rattle.std.specs.Prelude.{Option, Some, None, option_map}
use Rattle.bump_rules.specs.declared.items.Head.{Head}
use Rattle.bump_rules.specs.declared.items.ItemId.{ItemId}
use Rattle.bump_rules.specs.declared.places.Place.{Place}
use Rattle.bump_rules.specs.declared.places.Place.TheVariants.{Cold, Dying, Unused}
use Rattle.bump_rules.specs.declared.places.Segment.{Segment}
use Rattle.bump_rules.specs.declared.places.Segment.TheVariants as segment
use Rattle.bump_rules.specs.declared.bumps.Bump.{Bump}
use Rattle.bump_rules.specs.declared.bumps.Outcome.{Outcome}
use Rattle.bump_rules.specs.declared.bumps.Outcome.TheVariants as outcome
use Rattle.bump_rules.specs.declared.lanes.LaneStage.{LaneStage}
use Rattle.bump_rules.specs.declared.lanes.LaneStage.TheVariants as lane
use Rattle.bump_rules.specs.Entries.{is_move_for, moves_told, IsTrueEntry}
use Rattle.bump_rules.specs.Lanes.{carried, tried, applied_now, cleared_active, applied_bump, ending_at}
use Rattle.bump_rules.specs.Lawful.{Shows, IsUsed}
use Rattle.bump_rules.specs.Lives.{life}
use Rattle.bump_rules.specs.Tables.{may_move}
use Rattle.bump_rules.specs.Totals.{how_many}
use Rattle.bump_word.specs.Words.{word_of, Fits}
use Rattle.bump_steps.specs.declared.views.Kind.{Kind}
use Rattle.bump_steps.specs.declared.views.Kind.TheVariants as kind
use Rattle.bump_steps.specs.declared.views.ClassSheet.{ClassSheet}
use Rattle.bump_steps.specs.declared.views.OwnStep.{OwnStep}
use Rattle.bump_heads.specs.declared.joined.Joined.{Joined}
use Rattle.bump_heads.specs.declared.views.ClassView.{ClassView}
use Rattle.bump_steps.specs.declared.views.LaneSheet.{LaneSheet}
use Rattle.bump_steps.specs.Views.{owns, standing, shows_time_only}
use Rattle.bump_steps.specs.Lives.{IsInSegment}
use Rattle.bump_steps.specs.Plays.{step_of}
use Rattle.bump_steps.specs.Applications.{application_of, lane_after_clear_active, lane_after_move, noted_class}
use Rattle.bump_steps.specs.Applications.{class_after_move}
use Rattle.bump_readers.specs.Seats.{listed}
use Rattle.bump_heads.specs.Seats.{aboard_lane}

-- ---- the bump aboard

-- the bump that a lane carries, at which nobody looked yet
abbrev pub carried_by : Option LaneSheet → Option Bump
carried_by None = None
carried_by (Some this_lane) = carried this_lane.stage

abbrev pub life_of : Option Bump → ItemId
life_of None = life 0 0
life_of (Some bump) = bump.life

abbrev pub life_aboard : Option LaneSheet → ItemId
life_aboard joined = life_of (aboard_lane joined)

abbrev pub stage_of : Option LaneSheet → LaneStage
stage_of None = lane.Empty
stage_of (Some this_lane) = this_lane.stage

-- there is such a bump, and it is of this chunk
abbrev pub IsOf : ℕ → Option Bump → Type 0
IsOf chunk None = ⊥
IsOf chunk (Some bump) = bump.life.chunk ≡ chunk

-- ---- when a step may be made

-- ACTIVE of a chunk that stands there may be cleared: for a pull where its item is linked; for the bump aboard once its
-- head was looked at, in COLD
abbrev pub MayClearActive : ℕ → Place → Option LaneSheet → Type 0
MayClearActive chunk at None = IsInSegment at
MayClearActive chunk at (Some this_lane) = (at ≡ Cold) × IsOf chunk (tried this_lane.stage)

-- its time may be stored: for a link where the chunk is in UNUSED; for the bump aboard from the look at its head on,
-- where its item is linked
abbrev pub MayPutTime : ℕ → Place → Option LaneSheet → Type 0
MayPutTime chunk at None = at ≡ Unused
MayPutTime chunk at (Some this_lane) = IsInSegment at × IsOf chunk (applied_now this_lane.stage)

-- it may be moved: by a pull as the tail table has it; for the bump aboard from COLD to WARM, once ACTIVE was found and
-- cleared
abbrev pub MayChangeSegment : ℕ → Segment → Segment → Option LaneSheet → Type 0
MayChangeSegment chunk from to None = may_move from to ≡ true
MayChangeSegment chunk from to (Some this_lane) = (from ≡ segment.Cold) × (to ≡ segment.Warm)
    × IsOf chunk (cleared_active this_lane.stage)

-- a step of the class or of the lane, which was made for this very bump, shows that its item wasn't to be moved
abbrev pub ShowsNothing : ClassSheet → LaneSheet → Bump → Type 0
ShowsNothing class this_lane bump = 0 < how_many (shows_time_only this_lane.worker bump.number bump.life.chunk)
    class.steps + how_many (shows_time_only this_lane.worker bump.number bump.life.chunk) this_lane.steps

-- the entry of the bump with this outcome is true, by the class's history and by the steps that were made for it
abbrev pub IsShown : ClassSheet → LaneSheet → Bump → Outcome → Type 0
IsShown class this_lane bump ending = IsTrueEntry class.history this_lane.worker (ShowsNothing class this_lane bump)
    (applied_bump bump ending)

-- ---- how a bump ends

-- the lane's last step was made for this bump, on its chunk: the look at the head of its item, which found this one
pub record TryFound (this_lane : LaneSheet) (bump : Bump) (head : Head) : Type 0 where
  pub before : List OwnStep
  pub steps : this_lane.steps ≡ before ++ step_of kind.Try bump.life.chunk (word_of head)
      (Some (this_lane.worker, bump.number)) ∷ []
  pub fits : Fits head

-- The bump aboard the joined lane may end, and with this outcome, by how far the lane is and the head that its look
-- found: it isn't linked; or it is linked, but not in COLD; or ACTIVE was cleared and not found; or the item was moved.
pub record MayEndAs (seat : ClassView) (this_lane : LaneSheet) (bump : Bump) (head : Head) (came_out : Outcome) : Type 0
  where
    pub joined : seat.lane ≡ Some this_lane
    pub found_by_try : TryFound this_lane bump head
    pub ending : ending_at (λ c. head) this_lane.stage ≡ Some (applied_bump bump came_out)

-- what a bump comes out with that may end right behind the look at its item's head, which found this one
abbrev pub outcome_after_try : Head → Outcome
outcome_after_try found = if not found.linked then outcome.Gone else outcome.TimeOnly

-- what a bump comes out with, if it may end, by the head that its look found and how far its lane is
abbrev pub outcome_by : Head → LaneStage → Outcome
outcome_by found (lane.Cleared bump active) = outcome.TimeOnly
outcome_by found (lane.Moved bump) = outcome.Moved
outcome_by found stage = outcome_after_try found

-- what the class's seat keeps once a lane looked at the head of its bump's item, in this chunk, and once that was moved
abbrev pub joined_after_try : ℕ → Head → Joined
joined_after_try chunk found = record { chunk = chunk; outcome = outcome_after_try found }

abbrev pub joined_after_move : Joined → Joined
joined_after_move joined = record joined { outcome = outcome.Moved }

-- What a class's seat keeps of a lane that is joined to it.
pub record Joins (class : ClassSheet) (this_lane : LaneSheet) (joined : Joined) : Type 0 where
  -- it knows the chunk of the bump aboard, which is the class's
  pub bump : Bump
  pub aboard : applied_now this_lane.stage ≡ Some bump
  pub chunk : joined.chunk ≡ bump.life.chunk
  -- and its sheet names the application from the move on
  pub named : class.applying ≡ application_of this_lane.worker this_lane.stage
  pub own : owns bump.life.chunk class ≡ true
  -- the lane's look found a head: of an item in DYING, if it wasn't linked
  pub found : Head
  pub found_by_try : TryFound this_lane bump found
  pub gone : found.linked ≡ false → (standing class bump.life.chunk).0 ≡ Dying
  -- it knows what the bump comes out with, if it may end now
  pub outcome : joined.outcome ≡ outcome_by found this_lane.stage
  -- and that is true
  pub entry : (b : Bump) (o : Outcome) → ending_at (λ c. found) this_lane.stage ≡ Some (applied_bump b o)
      → IsShown class this_lane b o

-- of the lane, if one is joined; else no application is in progress
abbrev pub IsJoined : ClassSheet → Option LaneSheet → Joined → Type 0
IsJoined class None joined = class.applying ≡ None
IsJoined class (Some this_lane) joined = Joins class this_lane joined

-- There is such a thing that it keeps.
abbrev pub KeepsJoined : ClassSheet → Option LaneSheet → Type 0
KeepsJoined class joined_lane = (joined : Joined) × IsJoined class joined_lane joined

-- ---- what a step leaves

-- a step of the class is noted: for the bump aboard, where a lane is joined
abbrev pub with_step : Kind → ℕ → ℕ → ClassView → ClassSheet
with_step kind chunk word seat = noted_class kind chunk word (listed seat.lane) seat.sheet

-- ACTIVE of the chunk was cleared, whose head was h
abbrev pub seat_after_clear_active : ℕ → Head → ClassView → ClassView
seat_after_clear_active chunk head seat = record {
  sheet = with_step kind.ClearActive chunk (word_of head) seat;
  lane =
      option_map (lane_after_clear_active head.active) seat.lane;
}

-- its time was stored
abbrev pub seat_after_put_time : ℕ → ℕ → ClassView → ClassView
seat_after_put_time chunk now seat = record seat { sheet = with_step kind.PutTime chunk now seat }

-- it was moved
abbrev pub seat_after_move : ℕ → Segment → Segment → Head → ClassView → ClassView
seat_after_move chunk from to head seat =
    record {
      sheet = class_after_move from to chunk (word_of head) (listed seat.lane) seat.sheet;
      lane =
          option_map lane_after_move seat.lane;
    }

-- ---- what a caller learns

-- What the class knows of the head that a bump's lane found: it is of the bump's life, of which there is a reference;
-- and a chunk of the class stands where its history leaves it, in this life, and isn't free.
pub record FoundOfBump (sheet : ClassSheet) (item : ItemId) (head : Head) : Type 0 where
  pub generation : head.generation ≡ item.generation
  pub counted : 0 < head.refs
  pub stands : owns item.chunk sheet ≡ true → Shows head (standing sheet item.chunk).0
      × ((standing sheet item.chunk).1 ≡ item.generation) × IsUsed (standing sheet item.chunk).0

-- the class's history names no bump twice
abbrev pub NamesNoBumpTwice : ClassSheet → Type 0
NamesNoBumpTwice class = (w n : ℕ) → how_many (is_move_for (λ l. true) w n) class.history ≤ 1

-- each move for a bump in the class's history is of a worker below this number
abbrev pub NamesWorkersBelow : ℕ → ClassSheet → Type 0
NamesWorkersBelow workers class = (w n : ℕ) → workers ≤ w → how_many (is_move_for (λ l. true) w n) class.history ≡ 0

-- the item passes the test, and its chunk is the class's
abbrev pub is_own : ClassSheet → (ItemId → Bool) → ItemId → Bool
is_own class test item = owns item.chunk class && test item

-- The moves that the class's history has for bumps of the lane's worker are those that the lane tells of items of the
-- class: by its entries with outcome Moved, and as the move in progress. It is counted by the bump's number and, by any
-- test, by its item.
abbrev pub TellsMoves : ClassSheet → LaneSheet → Type 0
TellsMoves class this_lane = (test : ItemId → Bool) (n : ℕ) → how_many (is_move_for test this_lane.worker n)
    class.history ≡ moves_told (is_own class test) n this_lane.applied this_lane.stage
