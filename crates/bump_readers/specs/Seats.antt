-- What contracts see of workers' seats and of holds.
use Rattle.std.specs.Prelude.{◌≡◌, ℕ, List, [], ◌∷◌, Option, Some, None}
use Rattle.atomic_table.specs.Table.{Me}
use Rattle.atomic_table.specs.Seated.{TableId}
use Rattle.bump_rules.specs.declared.items.ItemId.{ItemId}
use Rattle.bump_rules.specs.Lives.{life}
use Rattle.bump_rules.specs.Rings.{IsAccounts}
use Rattle.bump_steps.specs.declared.views.Empty.{Empty}
use Rattle.bump_steps.specs.declared.views.WorkerSheet.{WorkerSheet}
use Rattle.bump_steps.specs.declared.views.HoldSheet.{HoldSheet}
use Rattle.bump_steps.specs.declared.views.Ride.{Ride}
use Rattle.bump_steps.specs.declared.views.View.{View}
use Rattle.bump_readers.specs.declared.views.WorkerView.{WorkerView}
use Rattle.bump_steps.specs.Rule.{blank, worker_sheet}
pub use Rattle.bump_steps.specs.Views.{first}
use Rattle.bump_steps.specs.Places.{HasChunk}
use Rattle.bump_readers.specs.Attempts.{attempts_in}

abbrev pub head_or : {A : Type 0} → A → List A → A
head_or or_else [] = or_else
head_or or_else (x ∷ xs) = x

abbrev pub listed : {A : Type 0} → Option A → List A
listed None = []
listed (Some x) = x ∷ []

-- the sheet of a seat that has none
abbrev pub no_worker : WorkerSheet
no_worker = worker_sheet 0

-- ---- holds

abbrev pub hold_me : Option HoldSheet → Me Empty View
hold_me hold = (record blank { holds = listed hold }, [])

-- the seat of a hold of the life whose reference was given back where this word was found: it has the mark of that
-- alone
abbrev pub spent_me : ItemId → ℕ → Me Empty View
spent_me item word = (record blank { returned = record { life = item; word = word } ∷ [] }, [])

-- the view that a hold keeps: none while it is hollow
abbrev pub hold_views : Option HoldSheet → List View
hold_views None = []
hold_views (Some hold) = record blank { holds = hold ∷ [] } ∷ []

abbrev pub hold_in_views : List View → Option HoldSheet
hold_in_views [] = None
hold_in_views (view ∷ vs) = first view.holds

-- the sheet, where it isn't with a worker or a class, is of the life
abbrev pub IsHoldOf : ItemId → Option HoldSheet → Type 0
IsHoldOf item None = Unit {0}
IsHoldOf item (Some hold) = hold.life ≡ item

-- the words of the life that is held, if the hold is whole: its label, and then its further words
abbrev pub row_in : Option HoldSheet → List ℕ
row_in None = []
row_in (Some hold) = hold.row

-- the head words that its looks found
abbrev pub looks_in : Option HoldSheet → List ℕ
looks_in None = []
looks_in (Some hold) = hold.looks

-- ---- riders

-- the bump of a seat that has none
abbrev pub no_ride : Ride
no_ride = record { worker = 0; number = 0; life = life 0 0 }

abbrev pub ride_in : View → Ride
ride_in view = head_or no_ride view.riders

-- ---- workers

abbrev pub worker_in : View → WorkerView
worker_in view = record { sheet = head_or no_worker view.workers; hold = first view.holds }

abbrev pub worker_me : WorkerView → Me Empty View
worker_me seat = (record blank { workers = seat.sheet ∷ []; holds = listed seat.hold }, [])

-- the life of a hold, if there is one
abbrev pub held_life : Option HoldSheet → Option ItemId
held_life None = None
held_life (Some hold) = Some hold.life

abbrev pub IsLifeInRange : TableId → Option ItemId → Type 0
IsLifeInRange table None = Unit {0}
IsLifeInRange table (Some item) = HasChunk table item.chunk

-- What each worker's sheet keeps of its accounts.
pub record IsWorkerSheet (worker : WorkerSheet) : Type 0 where
  -- accepted and dropped bumps, and the attempt under way, add up to those attempted
  pub accounts : IsAccounts worker.accounts worker.accounts.accepted worker.hand
  -- and attempted are as many as the worker's own steps that set ACTIVE where they found it clear in COLD
  pub attempts : worker.accounts.attempted ≡ attempts_in worker.steps
