-- What a whole run reads and writes.
use Rattle.std.specs.Prelude.{◌≡◌, ◌<◌, ◌≤◌, ◌⊎◌, ⊤, ℕ, Bool, true, false, List, length, Option, Result, Ok, Err}
use Rattle.std.specs.Io.KnownBytes.{Appends, Consumes, Keeps, IsAtEnd}
use Rattle.bump_trace.specs.Meaning.{verdict_of}
use Rattle.bump_trace.specs.Gathering.{WritesFront}
use Rattle.bump_trace.specs.declared.runs.SimFault.{SimFault}
use Rattle.bump_trace.specs.declared.runs.SimFault.TheVariants as faults

-- the most bytes that a trace has
abbrev pub most_bytes : ℕ
most_bytes = 16777216

-- the most reads that a run makes
abbrev pub most_reads : ℕ
most_reads = 20000000

-- All that the reader had is a trace, and the writer took its text and nothing else.
pub record Ran (had left held holds : Option (List ℕ)) (is_fault : Bool) : Type 0 where
  pub input : List ℕ
  pub read : Consumes had left input
  pub end : IsAtEnd left
  pub size : length input ≤ most_bytes
  pub text : Appends held holds (verdict_of input).text
  pub fault : (verdict_of input).is_fault ≡ is_fault

-- All that the reader had is a trace, and the writer took a front of its text and nothing else.
pub record PartlyRan (had left held holds : Option (List ℕ)) : Type 0 where
  pub input : List ℕ
  pub read : Consumes had left input
  pub end : IsAtEnd left
  pub size : length input ≤ most_bytes
  pub front : WritesFront held holds (verdict_of input).text

-- more came than a trace may have
abbrev pub TooManyCame : Option (List ℕ) → Option (List ℕ) → Type 0
TooManyCame had left = (input : List ℕ) × Consumes had left input × (most_bytes < length input)

-- A fault of the trace is the end of its text. Where the trace could not be read, nothing was written; where its text
-- could not be, a front of it was. Memory may be refused before all is read or behind it. A run on a World has no
-- threads, no ring and no gate.
abbrev pub StoppedBy : Option (List ℕ) → Option (List ℕ) → Option (List ℕ) → Option (List ℕ) → SimFault → Type 0
StoppedBy had left held holds faults.Trace = Ran had left held holds true
StoppedBy had left held holds faults.Read = Keeps held holds
StoppedBy had left held holds faults.Size = Keeps held holds × TooManyCame had left
StoppedBy had left held holds faults.Write = PartlyRan had left held holds
StoppedBy had left held holds faults.Memory = Keeps held holds ⊎ PartlyRan had left held holds
StoppedBy had left held holds faults.Threads = ⊥
StoppedBy had left held holds faults.Ring = ⊥
StoppedBy had left held holds faults.Gate = ⊥

-- what a reader had and has left, and what a writer held and holds, by the answer of the run
abbrev pub ModelRuns : Option (List ℕ) → Option (List ℕ) → Option (List ℕ) → Option (List ℕ) → Result ⊤ SimFault
    → Type 0
ModelRuns had left held holds (Ok _) = Ran had left held holds false
ModelRuns had left held holds (Err e) = StoppedBy had left held holds e

-- A run answers that it could not read or write only where a read or a write failed, or where too many reads were made.
abbrev pub FailsAsCounted : ℕ → ℕ → ℕ → SimFault → Type 0
FailsAsCounted reads read_failed write_failed faults.Trace = Unit {0}
FailsAsCounted reads read_failed write_failed faults.Read = (0 < read_failed) ⊎ (reads ≡ most_reads)
FailsAsCounted reads read_failed write_failed faults.Size = Unit {0}
FailsAsCounted reads read_failed write_failed faults.Write = 0 < write_failed
FailsAsCounted reads read_failed write_failed faults.Memory = Unit {0}
FailsAsCounted reads read_failed write_failed faults.Threads = Unit {0}
FailsAsCounted reads read_failed write_failed faults.Ring = Unit {0}
FailsAsCounted reads read_failed write_failed faults.Gate = Unit {0}

-- Where the trace could not be read the writer was not called.
abbrev pub IsUncalled : ℕ → SimFault → Type 0
IsUncalled writes faults.Trace = Unit {0}
IsUncalled writes faults.Read = writes ≡ 0
IsUncalled writes faults.Size = writes ≡ 0
IsUncalled writes faults.Write = Unit {0}
IsUncalled writes faults.Memory = Unit {0}
IsUncalled writes faults.Threads = Unit {0}
IsUncalled writes faults.Ring = Unit {0}
IsUncalled writes faults.Gate = Unit {0}
