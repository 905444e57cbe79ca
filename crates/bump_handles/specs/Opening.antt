-- What a store is in parts, once it is opened.
use Rattle.std.specs.Prelude.{◌≡◌, ◌≢◌, ℕ, ◌+◌, ◌-◌, List, [], ◌∷◌, map, replicate, slice_get, slice_set, All}
use Rattle.std.specs.Prelude.{Option, None, Some, IfSome, IfNone}
use Rattle.bump_rules.specs.declared.configs.Config.{Config}
use Rattle.bump_steps.specs.Rule.{class_sheets, worker_sheets, lane_sheets}
use Rattle.bump_class.specs.Books.{BookView}
use Rattle.bump_class.specs.Lanes.{LaneView}
use Rattle.bump_unlocked.specs.Workers.{worker_rings, worker_sheets_of, WorkerState}
use Rattle.bump_unlocked.specs.UnlockedStore.{raw_rings, raw_sheets_of, new_books, starts_from}
use Rattle.bump_handles.specs.Views.{ReaderView, TaggedBookView, DrainerView, OpenedView}

-- the readers of these workers, whose numbers go from this one on, each with so many places that have no hold
abbrev pub readers_of : ℕ → Config → ℕ → ℕ → List WorkerState → List ReaderView
readers_of store config places number [] = []
readers_of store config places number (worker ∷ workers) = record {
  store = store;
  number = number;
  config = config;
  worker = worker;
  holds = replicate places None;
} ∷ readers_of store config places (number + 1) workers

abbrev pub tagged : ℕ → List BookView → List TaggedBookView
tagged store books = map (λ book. record { store = store; book = book }) books

-- lanes whose workers aren't closed
abbrev pub drainers_of : ℕ → List ℕ → List LaneView → List DrainerView
drainers_of store starts lanes =
    map (λ this_lane. record { store = store; lane = this_lane; closed = None; starts = starts }) lanes

-- none is taken yet
abbrev pub all_there : {A : Type 0} → List A → List (Option A)
all_there parts = map (λ part. Some part) parts

-- What taking the part with this number comes to: its place is empty then.
pub record TakesPart (A : Type 0) (number : ℕ) (before after : List (Option A)) (answer : Option A) : Type 0 where
  pub taken : IfSome answer (λ part. slice_get before number ≡ Some (Some part))
  pub left : IfSome answer (λ part. after ≡ slice_set before number None)
  -- there is no such number, or its part is taken already
  pub none : IfNone answer ((part : A) → slice_get before number ≢ Some (Some part))
  pub unchanged : IfNone answer (after ≡ before)

-- A store of this configuration was opened under this number: all its parts are there, and new.
pub record IsOpened (store : ℕ) (config : Config) (places : ℕ) (opened : OpenedView) : Type 0 where
  pub workers : List WorkerState
  pub lanes : List LaneView
  pub has_readers : opened.readers ≡ all_there (readers_of store config places 0 workers)
  pub has_lanes : opened.lanes ≡ all_there (drainers_of store (starts_from 0 config.classes) lanes)
  -- the worker and the lane of a number have one ring
  pub rings : worker_rings workers ≡ raw_rings lanes
  pub new_workers : worker_sheets_of workers ≡ worker_sheets 0 config.workers
  pub new_lanes : raw_sheets_of lanes ≡ lane_sheets 0 config.workers
  pub capacity : All (λ worker. worker.sender.capacity ≡ config.capacity) workers
  pub books : opened.books ≡ all_there (tagged store (new_books (class_sheets (config.first_generation - 1) 0 0
      config.classes) config.classes config.workers))
