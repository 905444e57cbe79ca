-- How far a trace is: before `store`, among the lines that say what the store is, or with an open store; and which
-- lines may stand there.
use Rattle.std.specs.Prelude.{ℕ, Bool, false, List, [], ◌∷◌, ◌++◌, Option, Some, None, Result, Ok, Err, option_map}
use Rattle.bump_rules.specs.declared.configs.ClassConfig.{ClassConfig}
use Rattle.bump_rules.specs.Configs.{first_fault}
use Rattle.model_state.specs.Opening.{opening_state}
use Rattle.model_state.specs.State.{State}
use Rattle.trace_lines.specs.Faults.{fault_of_config}
use Rattle.bump_trace.specs.Names.{Names, no_names}
use Rattle.trace_lines.specs.declared.faults.Fault.{Fault}
use Rattle.trace_lines.specs.declared.faults.Fault.TheVariants as fault
use Rattle.trace_lines.specs.declared.lines.Declaration.{Declaration}
use Rattle.trace_lines.specs.declared.lines.Declaration.TheVariants.{Store, Class}
use Rattle.trace_lines.specs.declared.lines.Shape.{Shape}

-- A store that commands are made on: its state, the names of its items, the names of the holds that are kept, each
-- bound to the held item, and whether `par` was read.
pub record StoreState : Type 0 where
  pub state : State
  pub names : Names
  pub holds : Names
  pub is_past_par : Bool

pub data Stage : Type 0 where
  Before : Stage
  Classes : Shape → List ClassConfig → Stage
  Open : StoreState → Stage

-- a stage, and the text that a line gave
pub record Said : Type 0 where
  pub stage : Stage
  pub text : List ℕ

-- a stage with a text
abbrev pub say : Stage → List ℕ → Said
say stage text = record { stage = stage; text = text }

-- the first fault that the configuration has
abbrev pub config_fault : Shape → List ClassConfig → Option Fault
config_fault shape classes =
    option_map fault_of_config
    (first_fault shape.workers shape.capacity shape.refs_limit shape.first_generation classes)

-- a store in this state, without names
abbrev pub nameless : State → StoreState
nameless state = record { state = state; names = no_names; holds = no_names; is_past_par = false }

-- a store of this shape in which nothing was done
abbrev pub new_store : Shape → List ClassConfig → StoreState
new_store shape classes =
    nameless (opening_state shape.workers shape.capacity shape.refs_limit shape.first_generation classes)

-- a store, unless there is a fault
abbrev pub unless_fault : Option Fault → StoreState → Result StoreState Fault
unless_fault None store = Ok store
unless_fault (Some e) store = Err e

-- The store that a command finds, and the end of the input. The first command after the lines `class` opens it.
unfoldable pub opened : Stage → Result StoreState Fault
opened Before = Err fault.Order
opened (Classes shape classes) = unless_fault (config_fault shape classes) (new_store shape classes)
opened (Open store) = Ok store

-- `store` is the first line that isn't skipped, and the lines `class` stand behind it, before any command.
unfoldable pub declared : Stage → Declaration → Result Said Fault
declared Before (Store shape) = Ok (say (Classes shape []) [])
declared (Classes shape classes) (Class class) = Ok (say (Classes shape (classes ++ class ∷ [])) [])
declared stage declaration = Err fault.Order
