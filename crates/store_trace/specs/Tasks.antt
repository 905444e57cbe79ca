-- Which lines behind `par` a thread makes, each once and in their order.
use Rattle.std.specs.Prelude.{◌≡◌, ℕ, zero, suc, ◌<◌, Bool, true, false, List, [], ◌∷◌, ◌++◌, length, map, take, filter}
use Rattle.std.specs.declared.vec.Vec.{Vec}
use Rattle.bump_rules.specs.declared.items.ItemId.{ItemId}
use Rattle.bump_rules.specs.declared.places.Tail.{Tail}
use Rattle.store_trace.specs.Gates.{PassedFirst}
use Rattle.store_trace.specs.declared.tasks.Chore.{Chore}
use Rattle.store_trace.specs.declared.tasks.Chore.TheVariants as chores
use Rattle.store_trace.specs.declared.tasks.ChoreTask.{ChoreTask}
use Rattle.store_trace.specs.declared.tasks.GetTask.{GetTask}
use Rattle.store_trace.specs.declared.tasks.Share.{Share}
use Rattle.store_trace.specs.declared.tasks.Share.TheVariants as shares

-- whether a line is a `drain`
abbrev pub is_drain : Chore → Bool
is_drain (chores.Unlink item) = false
is_drain (chores.Pull class tail) = false
is_drain (chores.Sweep class) = false
is_drain chores.Drain = true

-- whether a drainer with this share makes the line: the maintenance thread makes each that is no `get`, and every other
-- drainer each `drain` alone
abbrev pub is_shared : Share → Chore → Bool
is_shared shares.All chore = true
is_shared shares.Drains chore = is_drain chore

-- those of the lines that it makes, in their order
abbrev pub lines_of : Share → List ChoreTask → List ChoreTask
lines_of share tasks = filter (λ task. is_shared share task.chore) tasks

-- the times of the `drain` lines, in order
abbrev pub drain_times : List ChoreTask → List ℕ
drain_times tasks = map (λ task. task.now) (filter (λ task. is_drain task.chore) tasks)

-- the lines of each worker
abbrev pub gets_of : {Z : Type 0} → List (Vec GetTask Z) → List (List GetTask)
gets_of gets = map (λ lines. lines.items) gets

-- a line more of the worker with this number
abbrev pub with_task : ℕ → GetTask → List (List GetTask) → List (List GetTask)
with_task worker task [] = []
with_task zero task (lines ∷ others) = (lines ++ task ∷ []) ∷ others
with_task (suc worker) task (lines ∷ others) = lines ∷ with_task worker task others

module _ {A H : Type 0} (makes : A → H → H → Type 0) where
  -- These lines were made, each once, one after the other, and nothing else was done.
  abbrev pub MakesEach : List A → H → H → Type 0
  MakesEach [] before after = after ≡ before
  MakesEach (line ∷ lines) before after = (between : H) × makes line before between × MakesEach lines between after

  -- All of these lines were made, or, where the thread is stopped, some first ones.
  abbrev pub MakesSome : List A → Bool → H → H → Type 0
  MakesSome lines false before after = MakesEach lines before after
  MakesSome lines true before after = (made : ℕ) × (made < length lines) × MakesEach (take made lines) before after

  -- A worker's lines at a gate, one after the other. All of them passed, the gate was told of each, and each was made;
  -- or the thread is stopped: some first ones were, and the next one was not let pass.
  abbrev pub MakesTurns : (ℕ → Bool → Type 0) → (ℕ → Type 0) → List A → Bool → H → H → Type 0
  MakesTurns lets sees lines false before after = PassedFirst lets sees (length lines) × MakesEach lines before after
  MakesTurns lets sees lines true before after = (made : ℕ) × (made < length lines) × PassedFirst lets sees made
      × lets made false × MakesEach (take made lines) before after

module _ {H : Type 0} (unlinks : ItemId → H → H → Type 0) (pulls : ℕ → Tail → H → H → Type 0)
    (sweeps : ℕ → H → H → Type 0) (drains : ℕ → H → H → Type 0) where
  -- what each line that is no `get` does, at its time
  abbrev pub DoesChore : Chore → ℕ → H → H → Type 0
  DoesChore (chores.Unlink item) now before after = unlinks item before after
  DoesChore (chores.Pull class tail) now before after = pulls class tail before after
  DoesChore (chores.Sweep class) now before after = sweeps class before after
  DoesChore chores.Drain now before after = drains now before after

  abbrev pub MakesChore : ChoreTask → H → H → Type 0
  MakesChore task before after = DoesChore task.chore task.now before after
