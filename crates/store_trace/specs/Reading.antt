-- Which task a line behind `par` becomes.
use Rattle.std.specs.Prelude.{◌≡◌, ℕ, List, [], ◌∷◌, ◌++◌, Some}
use Rattle.bump_rules.specs.declared.items.ItemId.{ItemId}
use Rattle.bump_trace.specs.Names.{Names}
use Rattle.store_trace.specs.Tasks.{with_task}
use Rattle.store_trace.specs.declared.tasks.Chore.TheVariants as chores
use Rattle.store_trace.specs.declared.tasks.ChoreTask.{ChoreTask}
use Rattle.store_trace.specs.declared.tasks.GetTask.{GetTask}
use Rattle.trace_lines.specs.Lines.{Instruction}
use Rattle.trace_lines.specs.Lines.{Set, Get, Hold, Hit, Read, Drop, Del, Pull, Sweep, Drain, Close, Show, Moves, Par}

-- A line becomes a task behind the others, with its number as its time: a `get` one of its worker, of the item that its
-- name is bound to; each other one of the maintenance thread. Those that may not stand there become none.
abbrev pub AddsTask : Names → ℕ → Instruction → List (List GetTask) → List ChoreTask → List (List GetTask)
    → List ChoreTask → Type 0
AddsTask names now (Get worker name) gets tasks more_gets more_tasks = (item : ItemId) × (names name ≡ Some item)
    × (more_gets ≡ with_task worker (record { now = now; id = item }) gets) × (more_tasks ≡ tasks)
AddsTask names now (Del name) gets tasks more_gets more_tasks = (item : ItemId) × (names name ≡ Some item)
    × (more_gets ≡ gets) × (more_tasks ≡ tasks ++ record { now = now; chore = chores.Unlink item } ∷ [])
AddsTask names now (Pull class tail) gets tasks more_gets more_tasks =
    (more_gets ≡ gets) × (more_tasks ≡ tasks ++ record { now = now; chore = chores.Pull class tail } ∷ [])
AddsTask names now (Sweep class) gets tasks more_gets more_tasks =
    (more_gets ≡ gets) × (more_tasks ≡ tasks ++ record { now = now; chore = chores.Sweep class } ∷ [])
AddsTask names now Drain gets tasks more_gets more_tasks =
    (more_gets ≡ gets) × (more_tasks ≡ tasks ++ record { now = now; chore = chores.Drain } ∷ [])
AddsTask names now (Set start name class label) gets tasks more_gets more_tasks = ⊥
AddsTask names now (Hold worker name hold) gets tasks more_gets more_tasks = ⊥
AddsTask names now (Hit worker hold) gets tasks more_gets more_tasks = ⊥
AddsTask names now (Read hold) gets tasks more_gets more_tasks = ⊥
AddsTask names now (Drop hold) gets tasks more_gets more_tasks = ⊥
AddsTask names now (Close worker) gets tasks more_gets more_tasks = ⊥
AddsTask names now Show gets tasks more_gets more_tasks = ⊥
AddsTask names now Moves gets tasks more_gets more_tasks = ⊥
AddsTask names now Par gets tasks more_gets more_tasks = ⊥
