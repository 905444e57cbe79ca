-- Why a trace could not be read.
use Rattle.std.specs.Prelude.{◌≡◌, ◌<◌, ◌⊎◌, ℕ, List, Option}
use Rattle.bump_trace.specs.Runs.{most_reads, TooManyCame}
use Rattle.bump_trace.specs.declared.runs.SimFault.{SimFault}
use Rattle.bump_trace.specs.declared.runs.SimFault.TheVariants as faults

-- a fault before anything is written: a read failed, or there were too many
abbrev pub IsOfReading : ℕ → ℕ → SimFault → Type 0
IsOfReading calls failed faults.Trace = ⊥
IsOfReading calls failed faults.Read = (0 < failed) ⊎ (calls ≡ most_reads)
IsOfReading calls failed faults.Size = Unit {0}
IsOfReading calls failed faults.Write = ⊥
IsOfReading calls failed faults.Memory = Unit {0}
IsOfReading calls failed faults.Threads = ⊥
IsOfReading calls failed faults.Ring = ⊥
IsOfReading calls failed faults.Gate = ⊥

-- more came than a trace may have, where that is the fault
abbrev pub IsOfSize : Option (List ℕ) → Option (List ℕ) → SimFault → Type 0
IsOfSize had left faults.Trace = Unit {0}
IsOfSize had left faults.Read = Unit {0}
IsOfSize had left faults.Size = TooManyCame had left
IsOfSize had left faults.Write = Unit {0}
IsOfSize had left faults.Memory = Unit {0}
IsOfSize had left faults.Threads = Unit {0}
IsOfSize had left faults.Ring = Unit {0}
IsOfSize had left faults.Gate = Unit {0}
