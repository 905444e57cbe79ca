-- Text that is gathered before it is written.
use Rattle.std.specs.Prelude.{◌≡◌, ◌<◌, ℕ, Bool, List, [], ◌++◌, Option}
use Rattle.std.specs.Io.KnownBytes.{Appends}
use Rattle.bump_trace.specs.Meaning.{verdict_of}
use Rattle.trace_lines.specs.Text.{fault_line}
use Rattle.trace_lines.specs.declared.faults.LineError.{LineError}
use Rattle.trace_lines.specs.declared.faults.LineError.TheVariants as errors
use Rattle.bump_trace.specs.declared.runs.SimFault.{SimFault}
use Rattle.bump_trace.specs.declared.runs.SimFault.TheVariants as faults

-- What was gathered, and then this text, is what was written and what is gathered now.
abbrev pub Gathers : Option (List ℕ) → Option (List ℕ) → List ℕ → List ℕ → List ℕ → Type 0
Gathers held holds old new text = (sent : List ℕ) × Appends held holds sent × (sent ++ new ≡ old ++ text)

-- What was written is a front of this text.
pub record WritesFront (held holds : Option (List ℕ)) (text : List ℕ) : Type 0 where
  pub sent : List ℕ
  pub more : List ℕ
  pub wrote : Appends held holds sent
  pub front : sent ++ more ≡ text

-- What was written, and then what is gathered, is a front of this text.
pub record GathersFront (held holds : Option (List ℕ)) (gathered text : List ℕ) : Type 0 where
  pub sent : List ℕ
  pub more : List ℕ
  pub wrote : Appends held holds sent
  pub front : (sent ++ gathered) ++ more ≡ text

-- Where a write failed, what was written is a front of this text; where there was no memory, what was written and then
-- what is gathered. While the text is made and written nothing else can come.
abbrev pub StopsWithin : Option (List ℕ) → Option (List ℕ) → List ℕ → List ℕ → SimFault → Type 0
StopsWithin held holds gathered text faults.Trace = ⊥
StopsWithin held holds gathered text faults.Read = ⊥
StopsWithin held holds gathered text faults.Size = ⊥
StopsWithin held holds gathered text faults.Write = WritesFront held holds text
StopsWithin held holds gathered text faults.Memory = GathersFront held holds gathered text
StopsWithin held holds gathered text faults.Threads = ⊥
StopsWithin held holds gathered text faults.Ring = ⊥
StopsWithin held holds gathered text faults.Gate = ⊥

-- The line of a fault was gathered.
abbrev pub GathersFault : Option (List ℕ) → Option (List ℕ) → List ℕ → List ℕ → ℕ → LineError → Type 0
GathersFault held holds old new number errors.Memory = ⊥
GathersFault held holds old new number (errors.Fault fault) = Gathers held holds old new (fault_line number fault)

-- the text that a run ends with at a line that was not run: none where there was no memory for it
abbrev pub stopped_line : ℕ → LineError → List ℕ
stopped_line number errors.Memory = []
stopped_line number (errors.Fault fault) = fault_line number fault

-- What was written, and what is gathered, is the text of the input.
abbrev pub RunsInto : Option (List ℕ) → Option (List ℕ) → List ℕ → List ℕ → Bool → Type 0
RunsInto held holds gathered input is_fault =
    (sent : List ℕ) × Appends held holds sent × (sent ++ gathered ≡ (verdict_of input).text)
    × ((verdict_of input).is_fault ≡ is_fault)

-- a fault while the text is made and written: a write failed, or there was no memory
abbrev pub IsOfWriting : ℕ → SimFault → Type 0
IsOfWriting failed faults.Trace = ⊥
IsOfWriting failed faults.Read = ⊥
IsOfWriting failed faults.Size = ⊥
IsOfWriting failed faults.Write = 0 < failed
IsOfWriting failed faults.Memory = Unit {0}
IsOfWriting failed faults.Threads = ⊥
IsOfWriting failed faults.Ring = ⊥
IsOfWriting failed faults.Gate = ⊥
