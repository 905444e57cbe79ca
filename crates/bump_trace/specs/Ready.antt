-- Between two lines of a trace no command is half made, and each hold name that is in use has a hold of its own.
use Rattle.std.specs.Prelude.{◌≡◌, ℕ, ◌+◌, ◌≤◌, Bool, true, false, List, [], ◌∷◌, All, length}
use Rattle.bump_rules.specs.declared.commands.Command.{Command}
use Rattle.bump_rules.specs.declared.commands.Command.TheVariants as command
use Rattle.bump_rules.specs.declared.items.ItemId.{ItemId}
use Rattle.bump_rules.specs.declared.lanes.LaneStage.TheVariants as lane
use Rattle.bump_rules.specs.declared.hands.Hand.TheVariants as hand
use Rattle.bump_rules.specs.Lives.{one_if}
use Rattle.model_state.specs.State.{State, WorkerState}
use Rattle.bump_rules.specs.Totals.{total}
use Rattle.model_state.specs.Worlds.{IsLawful, holds_of}
use Rattle.bump_trace.specs.Names.{Names, no_names, bind}
use Rattle.bump_trace.specs.Views.{names_of}
use Rattle.bump_trace.specs.declared.open_store.OpenStore.{OpenStore}
use Rattle.bump_trace.specs.declared.stages.Stage.{Stage}
use Rattle.bump_trace.specs.declared.stages.Stage.TheVariants as stage

-- neither the worker nor its lane has anything in hand, whether its ring is open or closed
pub record IsResting (worker : WorkerState) : Type 0 where
  pub idle : worker.hand ≡ hand.Idle
  pub empty : worker.lane ≡ lane.Empty

-- all workers rest
abbrev pub AllWorkersRest : State → Type 0
AllWorkersRest state = All IsResting state.workers

-- the numbers kept beside the World are its own, and it is lawful and at rest
pub record IsReady (store : OpenStore) : Type 0 where
  pub workers : length store.world.workers ≡ store.workers
  pub classes : length store.world.classes ≡ store.classes
  pub capacity : store.world.capacity ≡ store.capacity
  pub rest : AllWorkersRest store.world
  pub lawful : IsLawful store.world

-- each item has as many holds as before, or more
pub record HoldsStay (state next : State) : Type 0 where
  pub each : (life : ItemId) → holds_of state life ≤ holds_of next life

-- but for one hold of this item
pub record GivesBack (id : ItemId) (state next : State) : Type 0 where
  pub each : (life : ItemId) → holds_of state life ≤ holds_of next life + one_if life id

-- whether a command gives a hold back
abbrev pub is_release : Command → Bool
is_release (command.Release id) = true
is_release _ = false

-- names that were bound, the last one first
abbrev pub bindings : List (List ℕ × ItemId) → Names
bindings [] = no_names
bindings (binding ∷ others) = bind binding.0 binding.1 (bindings others)

-- how many of them are bound to an item
abbrev pub bound_to : ItemId → List (List ℕ × ItemId) → ℕ
bound_to life bound = total (λ binding. one_if life binding.1) bound

-- Each of these names has a hold of its own: an item has as many holds as names are bound to it, or more.
pub record AreHeld (state : State) (holds : Names) : Type 0 where
  pub bound : List (List ℕ × ItemId)
  pub names : holds ≡ bindings bound
  pub each : (life : ItemId) → bound_to life bound ≤ holds_of state life

-- so have the hold names of a store
abbrev pub KeepsHolds : OpenStore → Type 0
KeepsHolds store = AreHeld store.world (names_of store.holds)

-- What holds of an open store between two lines.
pub record IsSteady (store : OpenStore) : Type 0 where
  pub ready : IsReady store
  pub holds : KeepsHolds store

-- What a line finds: a steady store, and no text yet.
pub record MayRun (store : OpenStore) (text : List ℕ) : Type 0 where
  pub ready : IsReady store
  pub holds : KeepsHolds store
  pub empty : text ≡ []

-- a store that is open is steady
abbrev pub IsSteadyStage : Stage → Type 0
IsSteadyStage (stage.Opens opening) = Unit {0}
IsSteadyStage (stage.Open store) = IsSteady store
