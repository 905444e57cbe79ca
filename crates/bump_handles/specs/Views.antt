-- What contracts see of the parts of an open store.
use Rattle.std.specs.Prelude.{ℕ, List, Option}
use Rattle.bump_rules.specs.declared.configs.Config.{Config}
use Rattle.bump_steps.specs.declared.views.HoldSheet.{HoldSheet}
use Rattle.bump_class.specs.Books.{BookView}
use Rattle.bump_class.specs.Lanes.{LaneView}
use Rattle.bump_unlocked.specs.Closing.{ClosedState}
use Rattle.bump_unlocked.specs.Workers.{WorkerState}

-- a worker of the store with this number, and what stands in each of its places
pub record ReaderView : Type 0 where
  pub store : ℕ
  -- its worker's number
  pub number : ℕ
  -- what the store was made from
  pub config : Config
  pub worker : WorkerState
  pub holds : List (Option HoldSheet)

-- a class of the store with this number
pub record TaggedBookView : Type 0 where
  pub store : ℕ
  pub book : BookView

-- a lane of the store with this number
pub record DrainerView : Type 0 where
  pub store : ℕ
  pub lane : LaneView
  -- the worker of its ring, once that is closed
  pub closed : Option ClosedState
  -- the first chunk of each class of the store, and behind them the number of all chunks
  pub starts : List ℕ

-- what is still to be taken out of a store that was opened, by numbers from 0: None where it is taken
pub record OpenedView : Type 0 where
  pub readers : List (Option ReaderView)
  pub books : List (Option TaggedBookView)
  pub lanes : List (Option DrainerView)
