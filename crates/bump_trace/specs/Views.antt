-- The program's values as the definitions see them, and what its functions return.
use Rattle.std.specs.Prelude.{◌≡◌, ⊤, ℕ, List, ◌++◌, Result, Ok, Err}
use Rattle.std.specs.HashMap.{HashMap, get_by}
use Rattle.std.specs.Str.{bytes_eq}
use denote.Ref.{Bor}
use Rattle.bump_rules.specs.declared.configs.Config.{Config}
use Rattle.bump_rules.specs.declared.items.ItemId.{ItemId}
use Rattle.model_state.specs.Opening.{new_state}
use Rattle.bump_trace.specs.Names as names
use Rattle.bump_trace.specs.OpenStore.{Drained}
use Rattle.bump_trace.specs.Stages as stages
use Rattle.trace_lines.specs.declared.faults.Fault.{Fault}
use Rattle.trace_lines.specs.declared.faults.LineError.{LineError}
use Rattle.trace_lines.specs.declared.faults.LineError.TheVariants as errors
use Rattle.bump_trace.specs.declared.names.Names.{Names}
use Rattle.bump_trace.specs.declared.open_store.OpenStore.{OpenStore}
use Rattle.bump_trace.specs.declared.openings.Opening.{Opening}
use Rattle.bump_trace.specs.declared.openings.Opening.TheVariants as opening
use Rattle.bump_trace.specs.declared.stages.Stage.{Stage}
use Rattle.bump_trace.specs.declared.stages.Stage.TheVariants as stage

-- what each name is bound to
abbrev pub bindings_of : {S : Type 0} → HashMap (Bor (List ℕ)) ItemId S → names.Names
bindings_of ids name = get_by (λ key. bytes_eq name key.now) ids

-- the names of a map
abbrev pub names_of : Names → names.Names
names_of names = bindings_of names.ids

-- an open store as the definitions see it
abbrev pub store_of : OpenStore → stages.StoreState
store_of store = record {
  state = store.world;
  names = names_of store.names;
  holds = names_of store.holds;
  is_past_par = store.is_past_par;
}

-- the lines before the first command as the definitions see them
abbrev pub opening_of : Opening → stages.Stage
opening_of opening.Before = stages.Before
opening_of (opening.Classes shape classes) = stages.Classes shape classes.items

-- a stage as the definitions see it
abbrev pub seen_stage : Stage → stages.Stage
seen_stage (stage.Opens opening) = opening_of opening
seen_stage (stage.Open store) = stages.Open (store_of store)

-- a fault that isn't want of memory is the one that is meant
abbrev pub FailsBy : {X : Type 0} → LineError → Result X Fault → Type 0
FailsBy errors.Memory meant = Unit {0}
FailsBy (errors.Fault fault) meant = meant ≡ Err fault

-- What a call left and said is what is meant, unless memory ran out.
abbrev pub Does : stages.Stage → List ℕ → Result ⊤ LineError → Result stages.Said Fault → Type 0
Does new text (Ok _) meant = meant ≡ Ok (record { stage = new; text = text })
Does new text (Err what) meant = FailsBy what meant

-- The configuration is that of the store that is meant.
abbrev pub Configures : Result Config Fault → Result stages.StoreState Fault → Type 0
Configures (Ok config) meant = meant ≡ Ok (stages.nameless (new_state config))
Configures (Err fault) meant = meant ≡ Err fault

-- The bumps that a call applied, their text and their number are those that are meant, unless memory ran out.
abbrev pub Drains : OpenStore → OpenStore → List ℕ → List ℕ → Result ℕ LineError → Drained → Type 0
Drains old new had has (Ok count) meant =
    (new ≡ record old { world = meant.state }) × (has ≡ had ++ meant.text) × (count ≡ meant.count)
Drains old new had has (Err errors.Memory) meant = Unit {0}
Drains old new had has (Err (errors.Fault fault)) meant = ⊥

-- The store that a call opened is the one that is meant, unless memory ran out.
abbrev pub Opens : stages.Stage → Result ⊤ LineError → Result stages.StoreState Fault → Type 0
Opens new (Ok _) meant = (store : stages.StoreState) × (meant ≡ Ok store) × (new ≡ stages.Open store)
Opens new (Err what) meant = FailsBy what meant
