-- What a whole run on a store reads and writes.
use Rattle.std.specs.Prelude.{◌≡◌, ◌<◌, ◌≤◌, ⊤, ℕ, Bool, true, false, List, [], ◌++◌, length, Option, Result, Ok, Err}
use Rattle.std.specs.Io.KnownBytes.{Appends, Consumes, Keeps, IsAtEnd}
use Rattle.bump_rules.specs.declared.configs.Config.{Config}
use Rattle.model_state.specs.Opening.{new_state}
use Rattle.bump_store.specs.Lanes.{LaneState}
use Rattle.bump_trace.specs.Gathering.{Gathers, GathersFault}
use Rattle.bump_trace.specs.Runs.{most_bytes, TooManyCame}
use Rattle.bump_trace.specs.Stages.{Stage, StoreState}
use Rattle.bump_trace.specs.declared.runs.SimFault.{SimFault}
use Rattle.bump_trace.specs.declared.runs.SimFault.TheVariants as faults
use Rattle.store_trace.specs.Endings.{Ending, Whole, Stopped, EndsAt, TraceEnds}
use Rattle.store_trace.specs.Reports.{IsReport}
use Rattle.store_trace.specs.WholeLines.{IsLines}
use Rattle.store_trace.specs.declared.stops.Stop.{Stop}
use Rattle.store_trace.specs.declared.stops.Stop.TheVariants.{Line, Ring}
use Rattle.store_trace.specs.declared.totals.Totals.{Totals}
use Rattle.trace_lines.specs.Text.{fault_line}
use Rattle.trace_lines.specs.declared.faults.Fault.{Fault}

-- What is told behind the lines of a trace without a fault, by the store that it leaves.
abbrev pub Behind : Type 1
Behind = StoreState → List ℕ → Type 0

-- nothing
abbrev pub NoMore : Behind
NoMore store text = text ≡ []

-- the report of a run with threads, on a store of that configuration
abbrev pub Reported : Behind
Reported store text = (config : Config) × (lanes : List LaneState) × (totals : Totals)
    × (store.state ≡ new_state config) × IsReport config lanes totals text

-- The text of a trace that ends so: whole lines, and then what is told behind them, or the line of the fault.
abbrev pub EndsAs : Behind → Ending → List ℕ → Type 0
EndsAs more (Whole store) text =
    (before : List ℕ) × (last : List ℕ) × IsLines before × more store last × (text ≡ before ++ last)
EndsAs more (Stopped number what) text = (before : List ℕ) × IsLines before × (text ≡ before ++ fault_line number what)

-- whether it ends by a fault
abbrev pub is_stopped : Ending → Bool
is_stopped (Whole store) = false
is_stopped (Stopped number what) = true

-- Whole lines were gathered.
abbrev pub GathersLines : Option (List ℕ) → Option (List ℕ) → List ℕ → List ℕ → Type 0
GathersLines held holds old new = (text : List ℕ) × IsLines text × Gathers held holds old new text

-- The text of lines was gathered, from number n on, which end at a stage so, by a fault or without.
pub record TellsEnd (more : Behind) (held holds : Option (List ℕ)) (old new : List ℕ) (number : ℕ)
    (lines : List (List ℕ)) (stage : Stage) (is_fault : Bool) : Type 0 where
  pub text : List ℕ
  pub end : Ending
  pub told : Gathers held holds old new text
  pub ends : EndsAt number lines stage end
  pub as_text : EndsAs more end text
  pub fault : is_stopped end ≡ is_fault

-- The text of lines was gathered, from number n on, which end at a stage by a fault.
pub record TellsStop (held holds : Option (List ℕ)) (old new : List ℕ) (number : ℕ) (lines : List (List ℕ))
    (stage : Stage) : Type 0 where
  pub before : List ℕ
  pub whole : IsLines before
  pub at : ℕ
  pub what : Fault
  pub told : Gathers held holds old new (before ++ fault_line at what)
  pub ends : EndsAt number lines stage (Stopped at what)

-- The line of a fault was gathered.
abbrev pub GathersSomeFault : Option (List ℕ) → Option (List ℕ) → List ℕ → List ℕ → ℕ → Stop → Type 0
GathersSomeFault held holds old new number Ring = ⊥
GathersSomeFault held holds old new number (Line error) = GathersFault held holds old new number error

-- The writer took the text of an input.
pub record TellsText (more : Behind) (held holds : Option (List ℕ)) (input : List ℕ) (is_fault : Bool) : Type 0 where
  pub text : List ℕ
  pub end : Ending
  pub wrote : Appends held holds text
  pub ends : TraceEnds input end
  pub as_text : EndsAs more end text
  pub fault : is_stopped end ≡ is_fault

-- All that the reader had is a trace, and the writer took its text and nothing else.
pub record TellsTrace (more : Behind) (had left held holds : Option (List ℕ)) (is_fault : Bool) : Type 0 where
  pub input : List ℕ
  pub read : Consumes had left input
  pub end : IsAtEnd left
  pub size : length input ≤ most_bytes
  pub told : TellsText more held holds input is_fault

-- A fault of the trace is the end of its text; where the trace could not be read, nothing was written.
abbrev pub StoreStoppedBy : Behind → Option (List ℕ) → Option (List ℕ) → Option (List ℕ) → Option (List ℕ) → SimFault
    → Type 0
StoreStoppedBy more had left held holds faults.Trace = TellsTrace more had left held holds true
StoreStoppedBy more had left held holds faults.Read = Keeps held holds
StoreStoppedBy more had left held holds faults.Size = Keeps held holds × TooManyCame had left
StoreStoppedBy more had left held holds faults.Write = Unit {0}
StoreStoppedBy more had left held holds faults.Memory = Unit {0}
StoreStoppedBy more had left held holds faults.Threads = Unit {0}
StoreStoppedBy more had left held holds faults.Ring = Unit {0}
StoreStoppedBy more had left held holds faults.Gate = Unit {0}

-- what a reader had and has left, and what a writer held and holds, by the answer of the run
abbrev pub StoreRuns : Behind → Option (List ℕ) → Option (List ℕ) → Option (List ℕ) → Option (List ℕ)
    → Result ⊤ SimFault → Type 0
StoreRuns more had left held holds (Ok _) = TellsTrace more had left held holds false
StoreRuns more had left held holds (Err e) = StoreStoppedBy more had left held holds e

-- One thread starts no other, and has no gate.
abbrev pub IsOfOneThread : SimFault → Type 0
IsOfOneThread faults.Threads = ⊥
IsOfOneThread faults.Gate = ⊥
IsOfOneThread _ = Unit {0}

-- a fault while lines are run on a store: a write failed, there was no memory, or a ring could not show its end
abbrev pub IsOfLines : ℕ → SimFault → Type 0
IsOfLines failed faults.Trace = ⊥
IsOfLines failed faults.Read = ⊥
IsOfLines failed faults.Size = ⊥
IsOfLines failed faults.Write = 0 < failed
IsOfLines failed faults.Memory = Unit {0}
IsOfLines failed faults.Threads = ⊥
IsOfLines failed faults.Ring = Unit {0}
IsOfLines failed faults.Gate = ⊥

-- the same, where lines are made by threads too
abbrev pub IsOfThreads : ℕ → SimFault → Type 0
IsOfThreads failed faults.Threads = Unit {0}
IsOfThreads failed faults.Gate = Unit {0}
IsOfThreads failed fault = IsOfLines failed fault
