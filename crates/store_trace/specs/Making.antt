-- What the lines behind `par` do, as a thread makes them on a store.
use Rattle.std.specs.Prelude.{◌≡◌, ℕ, ◌<◌, List, length, All, Result, Ok, Err}
use Rattle.bump_rules.specs.declared.commands.Answer.{Answer}
use Rattle.bump_rules.specs.declared.commands.Touch.{Touch}
use Rattle.bump_rules.specs.declared.configs.Config.{Config}
use Rattle.bump_rules.specs.declared.items.ItemId.{ItemId}
use Rattle.bump_rules.specs.declared.places.Tail.{Tail}
use Rattle.bump_unlocked.specs.Workers.{WorkerState}
use Rattle.bump_unlocked.specs.declared.refusals.GetRefusal.{GetRefusal}
use Rattle.store_trace.specs.Commands.{GetsAs, OnClass, OnItsClass, AnswersPull, AnswersSweep, AnswersUnlink}
use Rattle.store_trace.specs.Totals.{with_touch, with_refusal}
use Rattle.store_trace.specs.declared.tasks.Chore.{Chore}
use Rattle.store_trace.specs.declared.tasks.Chore.TheVariants as chores
use Rattle.store_trace.specs.declared.tasks.ChoreTask.{ChoreTask}
use Rattle.store_trace.specs.declared.tasks.GetTask.{GetTask}
use Rattle.store_trace.specs.declared.totals.Totals.{Totals}

-- a worker, and how its lines were answered so far
abbrev pub Counted : Type 0
Counted = WorkerState × Totals

-- the answer of a `get` line is counted
abbrev pub with_get : Result (ℕ × Touch) GetRefusal → Totals → Totals
with_get (Ok answered) totals = with_touch answered.1 totals
with_get (Err refusal) totals = with_refusal refusal totals

-- A `get` line of a worker: it gets the item, at the line's time, and the answer is counted. Its ring stays.
abbrev pub MakesGet : Config → GetTask → Counted → Counted → Type 0
MakesGet config task before after = (answered : Result (ℕ × Touch) GetRefusal)
    × GetsAs config task.id task.now before.0 answered after.0 × (after.1 ≡ with_get answered before.1)
    × (after.0.sender.ring ≡ before.0.sender.ring)

-- An item was ended, a list was pulled, a class was swept, each once and of some Book of its class.
abbrev pub Unlinked : Config → ItemId → Type 0
Unlinked config item = (answer : Answer) × OnItsClass item.chunk config answer (λ book left. AnswersUnlink item book answer left)

abbrev pub WasPulled : Config → ℕ → Tail → Type 0
WasPulled config class tail = (answer : Answer) × OnClass class config (λ book left. AnswersPull tail book answer left)

abbrev pub WasSwept : Config → ℕ → Type 0
WasSwept config class = (answer : Answer) × OnClass class config (λ book left. AnswersSweep book answer left)

-- What such a line did: of a `drain` its lanes tell.
abbrev pub WasMade : Config → Chore → Type 0
WasMade config (chores.Unlink item) = Unlinked config item
WasMade config (chores.Pull class tail) = class < length config.classes → WasPulled config class tail
WasMade config (chores.Sweep class) = class < length config.classes → WasSwept config class
WasMade config chores.Drain = Unit {0}

-- each of these lines was made
abbrev pub WereMade : Config → List ChoreTask → Type 0
WereMade config tasks = All (λ task. WasMade config task.chore) tasks
