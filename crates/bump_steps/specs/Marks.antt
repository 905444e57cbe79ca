-- The steps of a worker's seat on the marks of a chunk, and on its time.
use Rattle.std.specs.Prelude.{◌≡◌, ℕ, ◌+◌, ◌-◌, ◌^◌, ◌<◌, Bool, true, false, if◌then◌else◌, List, [], ◌∷◌, ◌++◌, None}
use Rattle.bump_rules.specs.declared.hands.Hand.{Hand}
use Rattle.bump_rules.specs.declared.hands.Hand.TheVariants as hand
use Rattle.bump_rules.specs.declared.items.Head.{Head}
use Rattle.bump_rules.specs.declared.items.ItemId.{ItemId}
use Rattle.bump_rules.specs.Lives.{life}
use Rattle.bump_rules.specs.Tables.{attempts_bump}
use Rattle.bump_word.specs.Layout.{fetched_first, active_first}
use Rattle.bump_word.specs.Words.{word_of}
use Rattle.bump_steps.specs.declared.views.Kind.{Kind}
use Rattle.bump_steps.specs.declared.views.Kind.TheVariants as kind
use Rattle.bump_steps.specs.declared.views.WorkerSheet.{WorkerSheet}
use Rattle.bump_steps.specs.declared.views.View.{View}
use Rattle.bump_steps.specs.Views.{held, saw, weight}
use Rattle.bump_steps.specs.Plays.{Tells, Found, Told, on_first, step_of}

-- the worker's sheet changes
abbrev pub on_worker : (WorkerSheet → WorkerSheet) → View → View
on_worker change view = record view { workers = on_first change view.workers }

-- the worker made a step on a chunk, for no bump: the word that it found, or the value that it stored
abbrev pub noted : Kind → ℕ → ℕ → WorkerSheet → WorkerSheet
noted kind chunk word worker = record worker { steps = worker.steps ++ step_of kind chunk word None ∷ [] }

-- the life joins the first hits where FETCHED was found clear
abbrev pub hits_after : Bool → ItemId → List ItemId → List ItemId
hits_after true item hits = hits
hits_after false item hits = hits ++ item ∷ []

-- the worker set FETCHED of the life, and found this head
abbrev pub worker_after_fetch : ItemId → Head → WorkerSheet → WorkerSheet
worker_after_fetch item head worker = record (noted kind.Fetch item.chunk (word_of head) worker)
    { hits = hits_after head.fetched item worker.hits }

-- an Idle worker tries to take a reference for a bump
abbrev pub trying : ItemId → Hand → Hand
trying item hand.Idle = hand.Trying item
trying item so_far = so_far

-- a bump of the life is attempted
abbrev pub attempting : ItemId → WorkerSheet → WorkerSheet
attempting item worker =
    record worker {
      hand = trying item worker.hand;
      accounts =
          record worker.accounts { attempted = worker.accounts.attempted + 1 };
    }

-- the worker set ACTIVE of the life, and found this head: a bump is attempted where ACTIVE was clear in COLD
abbrev pub worker_after_mark : ItemId → Head → WorkerSheet → WorkerSheet
worker_after_mark item head worker = let q = noted kind.Mark item.chunk (word_of head) worker in
    if attempts_bump head then attempting item q else q

-- a worker that was to clear ACTIVE is Idle
abbrev pub done : Hand → Hand
done (hand.Clearing item) = hand.Idle
done so_far = so_far

-- the worker cleared ACTIVE of the life, and found this head
abbrev pub worker_after_unmark : ItemId → Head → WorkerSheet → WorkerSheet
worker_after_unmark item head worker = record (noted kind.Unmark item.chunk (word_of head) worker)
    { hand = done worker.hand }

-- the worker stored the life's time
abbrev pub worker_after_store_time : ItemId → ℕ → WorkerSheet → WorkerSheet
worker_after_store_time item now worker = noted kind.StoreTime item.chunk now worker

-- What the steps tell: their operand, and the change of the sheet, by the head that the word found spells.
abbrev pub changed_by : ℕ → (ItemId → Head → WorkerSheet → WorkerSheet) → Tells
changed_by operand change chunk given before word after = (given ≡ operand)
    × Found word (λ h. (after ≡ (on_worker (change (life chunk h.generation) h) before.0, before.1))
    × Told chunk before.0 h)

abbrev pub fetch_tells : Tells
fetch_tells = changed_by (2 ^ fetched_first) worker_after_fetch

abbrev pub mark_tells : Tells
mark_tells = changed_by (2 ^ active_first) worker_after_mark

abbrev pub unmark_tells : Tells
unmark_tells = changed_by (2 ^ 64 - 1 - 2 ^ active_first) worker_after_unmark

abbrev pub store_time_tells : Tells
store_time_tells chunk operand before word after =
    after ≡ (on_worker (worker_after_store_time (life chunk 0) word) before.0, before.1)

-- the seat refers to a life of the chunk
abbrev pub RefersTo : ℕ → View → Type 0
RefersTo chunk view = (g : ℕ) × (0 < weight chunk (held g) view)

-- and set its FETCHED
abbrev pub MayMark : ℕ → View → Type 0
MayMark chunk view = (g : ℕ) × (0 < weight chunk (held g) view) × (0 < weight chunk (saw g) view)
