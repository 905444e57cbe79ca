-- Open stores as the definitions see them.
use Rattle.std.specs.Prelude.{◌≡◌, ⊤, ℕ, length, Option, Some, None, Result, Ok, Err}
use Rattle.bump_readers.specs.declared.names.Name.{Ghosts}
use Rattle.model_state.specs.Opening.{new_state}
use Rattle.bump_trace.specs.Meaning.{fault_in}
use Rattle.bump_trace.specs.OpenStore.{instruction_said}
use Rattle.bump_trace.specs.Stages.{StoreState}
use Rattle.bump_trace.specs.Views.{names_of}
use Rattle.store_trace.specs.Endings.{Leaves}
use Rattle.store_trace.specs.NamedHolds.{kept_by}
use Rattle.store_trace.specs.declared.open_store.OpenStore.{OpenStore}
use Rattle.store_trace.specs.declared.stops.Stop.{Stop}
use Rattle.store_trace.specs.declared.stops.Stop.TheVariants.{Line, Ring}
use Rattle.trace_lines.specs.Lines.{Instruction}
use Rattle.trace_lines.specs.declared.faults.Fault.{Fault}
use Rattle.trace_lines.specs.declared.faults.LineError.{LineError}
use Rattle.trace_lines.specs.declared.faults.LineError.TheVariants as errors

module _ {N : Type 0} {g : Ghosts N} where
  -- A store in which nothing was done, but that names are bound as they are here.
  abbrev pub seen : OpenStore N g → StoreState
  seen store = record {
    state = new_state store.store;
    names = names_of store.names;
    holds = kept_by store.holds.places store.holds.holds.items;
    is_past_par = store.is_past_par;
  }

  -- it has the workers and the classes of its store
  pub record IsShaped (store : OpenStore N g) : Type 0 where
    pub workers : length store.pairs.items ≡ store.store.workers
    pub classes : store.classes ≡ length store.store.classes

-- A line that was run has no fault, and one that was not is told as the fault that is meant. Want of memory says
-- nothing, and where a ring couldn't show its end the line has no fault.
abbrev pub FailsAs : Result ⊤ Stop → Option Fault → Type 0
FailsAs (Ok _) meant = meant ≡ None
FailsAs (Err Ring) meant = meant ≡ None
FailsAs (Err (Line errors.Memory)) meant = Unit {0}
FailsAs (Err (Line (errors.Fault fault))) meant = meant ≡ Some fault

-- want of memory says nothing, and a fault that was told is the one that is meant
abbrev pub IsMeantFault : LineError → Option Fault → Type 0
IsMeantFault errors.Memory meant = Unit {0}
IsMeantFault (errors.Fault fault) meant = meant ≡ Some fault

-- A line may stand here, has no fault, and leaves all names as they are.
abbrev pub MayStand : StoreState → ℕ → Instruction → Type 0
MayStand store now instruction =
    (fault_in (instruction_said store now instruction) ≡ None) × Leaves instruction store store
