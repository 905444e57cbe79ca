-- What lanes and a class know of each other, once all of them met.
use Rattle.std.specs.Prelude.{◌≡◌, ℕ, ◌<◌, List, Some, slice_get}
use Rattle.bump_rules.specs.declared.bumps.Outcome.TheVariants.{Moved}
use Rattle.bump_rules.specs.declared.items.ItemId.{ItemId}
use Rattle.bump_rules.specs.Entries.{is_move_for}
use Rattle.bump_rules.specs.Lanes.{applied_bump, bump_of}
use Rattle.bump_rules.specs.Lives.{is_same}
use Rattle.bump_rules.specs.Totals.{how_many}
use Rattle.bump_steps.specs.declared.views.ClassSheet.{ClassSheet}
use Rattle.bump_store.specs.Lanes.{LaneState}

-- The lane of a worker among these, at its number.
pub record HasLaneOf (worker : ℕ) (lanes : List LaneState) (this_lane : LaneState) : Type 0 where
  pub there : slice_get lanes worker ≡ Some this_lane
  pub worker_is : this_lane.lane.sheet.worker ≡ worker

-- the lanes of all of so many workers, each at its number
abbrev pub AreAllLanes : ℕ → List LaneState → Type 0
AreAllLanes workers lanes = (worker : ℕ) → worker < workers → (this_lane : LaneState) × HasLaneOf worker lanes this_lane

-- The move for this bump of an item is told: the bump's worker has its lane among these, and its entry of this number is
-- of the item, and Moved.
pub record IsTold (worker number : ℕ) (item : ItemId) (lanes : List LaneState) : Type 0 where
  pub this_lane : LaneState
  pub has : HasLaneOf worker lanes this_lane
  pub entry : slice_get this_lane.lane.sheet.applied number ≡ Some (applied_bump (bump_of number item) Moved)

-- each move for a bump that the class's history has is told by one of these lanes
abbrev pub EachIsTold : ClassSheet → List LaneState → Type 0
EachIsTold class lanes = (worker number : ℕ) (item : ItemId)
    → 0 < how_many (is_move_for (is_same item) worker number) class.history → IsTold worker number item lanes
