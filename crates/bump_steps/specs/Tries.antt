-- What an attempt to take a reference comes to, for a hold or for a bump, by the heads that it found: the first one by
-- its load, and more by the exchanges that failed, in order.
use Rattle.std.specs.Prelude.{◌≡◌, ◌≢◌, ℕ, ◌<◌, ◌≤◌, ◌==◌, if◌then◌else◌, List, [], ◌∷◌, ◌++◌, length, Option, Some}
use Rattle.std.specs.Prelude.{None, Result, Ok, Err}
use Rattle.bump_rules.specs.declared.commands.Dropped.{Dropped}
use Rattle.bump_rules.specs.declared.items.Head.{Head}
use Rattle.bump_rules.specs.declared.items.ItemId.{ItemId}
use Rattle.bump_rules.specs.Tables.{Get, IsHeld, IsStale, IsRefsFull, get_of, most_exchanges, refused_of}
use Rattle.bump_word.specs.Words.{Fits, word_of}
use Rattle.bump_rules.specs.Lives.{life}
use Rattle.bump_steps.specs.declared.refusals.AnyRefusal.{AnyRefusal}
use Rattle.bump_steps.specs.declared.refusals.AnyRefusal.TheVariants as any
use Rattle.bump_steps.specs.declared.refusals.TakeRefusal.{TakeRefusal}
use Rattle.bump_steps.specs.declared.refusals.TakeRefusal.TheVariants.{Stale, RefsFull, Busy}
use Rattle.bump_steps.specs.declared.views.HoldSheet.{HoldSheet}
use Rattle.bump_steps.specs.declared.views.Kind.TheVariants as kind
use Rattle.bump_steps.specs.declared.views.OwnStep.{OwnStep}
use Rattle.bump_steps.specs.declared.views.View.{View}
use Rattle.bump_steps.specs.declared.views.WorkerSheet.{WorkerSheet}
use Rattle.bump_steps.specs.Plays.{on_first, step_of}
use Rattle.bump_steps.specs.References.{new_hold}
use Rattle.bump_steps.specs.Rides.{IsOfHeld, judged, worker_after_reserve}

-- ---- the heads

-- the head that was found last
abbrev pub last_found : Head → List Head → Head
last_found first [] = first
last_found first (next ∷ more) = last_found next more

-- each of them is as it has to be
abbrev pub AreAll : (Head → Type 0) → Head → List Head → Type 0
AreAll Is first [] = Is first
AreAll Is first (next ∷ more) = Is first × AreAll Is next more

-- By each of them but the last there is a reference to take, so that an exchange was tried; and it failed, since it
-- found another one.
abbrev pub AreTries : (Head → Type 0) → Head → List Head → Type 0
AreTries IsOpen first [] = Unit {0}
AreTries IsOpen first (next ∷ more) = IsOpen first × (next ≢ first) × AreTries IsOpen next more

-- what the steps of one attempt found
pub record AttemptFound (Is IsOpen : Head → Type 0) (first : Head) (more : List Head) : Type 0 where
  pub heads : AreAll Is first more
  pub tries : AreTries IsOpen first more
  -- at most 8 exchanges failed
  pub most : length more ≤ most_exchanges

-- The generation that is asked of a head that was found: that of one life, or whatever generation the head has.
abbrev pub of_life : ItemId → Head → ℕ
of_life item head = item.generation

abbrev pub of_any : Head → ℕ
of_any head = head.generation

-- for a hold: each is what a word can spell, and a get of the generation that is asked is a hold by each at which an
-- exchange was tried
abbrev pub AskedFound : ℕ → (Head → ℕ) → Head → List Head → Type 0
AskedFound limit asked first more = AttemptFound Fits (λ h. get_of limit (asked h) h ≡ IsHeld) first more

-- for a hold of the life
abbrev pub TakeFound : ℕ → ItemId → Head → List Head → Type 0
TakeFound limit item = AskedFound limit (of_life item)

-- for a bump: each is of the life that the worker holds, and has room for a reference where an exchange was tried
abbrev pub RideFound : ℕ → ItemId → Head → List Head → Type 0
RideFound limit item first more = AttemptFound (λ h. Fits h × IsOfHeld limit item h) (λ h. h.refs < limit) first more

-- each exchange that failed
abbrev pub failures : ℕ → List Head → List OwnStep
failures chunk [] = []
failures chunk (head ∷ more) = step_of kind.Failed chunk (word_of head) None ∷ failures chunk more

-- the load, and each exchange that failed
abbrev pub load_and_failures : ℕ → Head → List Head → List OwnStep
load_and_failures chunk first more = step_of kind.Load chunk (word_of first) None ∷ failures chunk more

-- the worker made these steps
abbrev pub with_more : List OwnStep → WorkerSheet → WorkerSheet
with_more steps worker = record worker { steps = worker.steps ++ steps }

-- ---- for a hold

-- why the get table refuses, if it does
abbrev pub refused_by : Get → Option TakeRefusal
refused_by IsStale = Some Stale
refused_by IsRefsFull = Some RefsFull
refused_by IsHeld = None

-- Why no reference is taken where so many exchanges failed, and this head was found last, if none is: it is busy where
-- 8 failed, whatever the last of them found, and else the get table decides.
abbrev pub take_refused : ℕ → (Head → ℕ) → ℕ → Head → Option TakeRefusal
take_refused limit asked failed found = if failed == most_exchanges then Some Busy else refused_by
    (get_of limit (asked found) found)

-- why the call is refused, if it is
abbrev pub asked_refusal : ℕ → (Head → ℕ) → Head → List Head → Option TakeRefusal
asked_refusal limit asked first more = take_refused limit asked (length more) (last_found first more)

abbrev pub refusal_of : ℕ → ItemId → Head → List Head → Option TakeRefusal
refusal_of limit item = asked_refusal limit (of_life item)

-- the exchange by which the reference was taken, if it was
abbrev pub takes : ℕ → Option TakeRefusal → Head → List OwnStep
takes chunk None head = step_of kind.Take chunk (word_of head) None ∷ []
takes chunk (Some refusal) head = []

-- the steps of the call
abbrev pub asked_steps : ℕ → (Head → ℕ) → ℕ → Head → List Head → List OwnStep
asked_steps limit asked chunk first more = load_and_failures chunk first more ++ takes chunk
    (asked_refusal limit asked first more) (last_found first more)

-- the new hold, if there is one, is the first, and has this row: among a seat's holds, and among those that a worker
-- took
abbrev pub held_by : Option TakeRefusal → ItemId → List ℕ → List HoldSheet → List HoldSheet
held_by None item row holds = new_hold item row ∷ holds
held_by (Some refusal) item row holds = holds

-- the life that is held: of the generation that is asked of the head that was found last
abbrev pub asked_life : (Head → ℕ) → ℕ → Head → List Head → ItemId
asked_life asked chunk first more = life chunk (asked (last_found first more))

-- the worker after the call: it made these steps, and it took this hold, if it took one
abbrev pub worker_after_asked : ℕ → (Head → ℕ) → ℕ → Head → List Head → List ℕ → WorkerSheet → WorkerSheet
worker_after_asked limit asked chunk first more row worker = record worker {
  steps = worker.steps ++ asked_steps limit asked chunk first more;
  taken = held_by (asked_refusal limit asked first more) (asked_life asked chunk first more) row worker.taken;
}

-- the view after the call
abbrev pub view_after_attempt : ℕ → (Head → ℕ) → ℕ → Head → List Head → List ℕ → View → View
view_after_attempt limit asked chunk first more row view = record view {
  workers = on_first (worker_after_asked limit asked chunk first more row) view.workers;
  holds = held_by (asked_refusal limit asked first more) (asked_life asked chunk first more) row view.holds;
}

-- ---- for a hold of whatever life the chunk has

-- the refusals by their names there: the chunk has no life that could be held
abbrev pub any_refusal : TakeRefusal → AnyRefusal
any_refusal Stale = any.Gone
any_refusal RefsFull = any.RefsFull
any_refusal Busy = any.Busy

-- the word of the head that was found last, by which the reference was taken, or the refusal
abbrev pub any_answer : Option TakeRefusal → Head → Result ℕ AnyRefusal
any_answer None found = Ok (word_of found)
any_answer (Some refusal) found = Err (any_refusal refusal)

-- ---- for a bump

-- Why the bump is dropped, if it is: the last step decides by the rule of an attempt, which was the load, or one of the
-- exchanges that failed.
abbrev pub drop_of : ℕ → Head → List Head → Option Dropped
drop_of limit first more = refused_of limit (length more) (last_found first more)

-- the reference is in the worker's hand, which an exchange took that found this head, or the bump is dropped
abbrev pub reserved_or_dropped : Option Dropped → ItemId → Head → WorkerSheet → WorkerSheet
reserved_or_dropped None item head worker = worker_after_reserve item head worker
reserved_or_dropped (Some why) item head worker = judged (Some why) item worker

-- the worker after the attempt
abbrev pub worker_after_attempt : ℕ → ItemId → Head → List Head → WorkerSheet → WorkerSheet
worker_after_attempt limit item first more worker = reserved_or_dropped (drop_of limit first more) item
    (last_found first more) (with_more (load_and_failures item.chunk first more) worker)
