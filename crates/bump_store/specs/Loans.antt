-- What a maintainer is once the loan of a lane ends.
use Rattle.std.specs.Prelude.{ℕ, List, set}
use Rattle.std.specs.Borrow.{Lends, Fml, RattleType, MutBor}
use Rattle.bump_readers.specs.declared.names.Name.{Ghosts}
use Rattle.bump_steps.specs.declared.laws.RowLaw.{Ghosts as LawGhosts}
use Rattle.bump_store.specs.Lanes.{LaneState}
use Rattle.bump_store.specs.contracts.lanes.Lane.{the_row as lane_row}
use Rattle.bump_store.specs.contracts.maintainers.Maintainer.{the_row as maintainer_row}

module _ (N L : RattleType) (name : Ghosts N.Denot) (law : LawGhosts L.Denot) where
  -- the lane of this worker is what the loan left, and all others are as they were
  abbrev pub LendsLane : MutBor (List LaneState) → ℕ → MutBor LaneState → Fml
  LendsLane lanes worker lent =
      Lends (maintainer_row N L name law) (lane_row N L name law) lanes lent (set lanes.now worker)
