-- What a whole run answers, by what its reading answered and what its lines told.
use Rattle.std.proofs.Common.{◌≡◌, ◌≤◌, ℕ, Bool, List, length, Option, Some, None, refl}
use Rattle.std.specs.Io.KnownBytes.{Consumes, Keeps, IsAtEnd}
use Rattle.bump_trace.specs.Reading.{IsOfReading, IsOfSize}
use Rattle.bump_trace.specs.Runs.{most_bytes, IsUncalled}
use Rattle.bump_trace.specs.declared.runs.SimFault.{SimFault}
use Rattle.bump_trace.specs.declared.runs.SimFault.TheVariants as faults
use Rattle.store_trace.specs.Runs.{Behind, TellsText, TellsTrace, StoreStoppedBy}

-- a writer that was not called keeps what it held
kept : (held : Option (List ℕ)) → Keeps held held
kept None = tt
kept (Some xs) = refl

-- where the trace could not be read, a writer without a call is one that was not called
pub unread_uncalled : (reads failed writes : ℕ) (e : SimFault) → IsOfReading reads failed e → writes ≡ 0 → IsUncalled writes e
unread_uncalled reads failed writes faults.Trace p none = tt
unread_uncalled reads failed writes faults.Read p none = none
unread_uncalled reads failed writes faults.Size p none = none
unread_uncalled reads failed writes faults.Write p none = tt
unread_uncalled reads failed writes faults.Memory p none = tt
unread_uncalled reads failed writes faults.Threads p none = tt
unread_uncalled reads failed writes faults.Ring p none = tt
unread_uncalled reads failed writes faults.Gate p none = tt

-- where it could not be read, nothing was written
pub unread_stopped : (more : Behind) (had left held : Option (List ℕ)) (reads failed : ℕ) (e : SimFault) → IsOfReading reads failed e → IsOfSize had left e
    → StoreStoppedBy more had left held held e
unread_stopped more had left held reads failed faults.Trace p long = absurd p
unread_stopped more had left held reads failed faults.Read p long = kept held
unread_stopped more had left held reads failed faults.Size p long = (kept held, long)
unread_stopped more had left held reads failed faults.Write p long = tt
unread_stopped more had left held reads failed faults.Memory p long = tt
unread_stopped more had left held reads failed faults.Threads p long = tt
unread_stopped more had left held reads failed faults.Ring p long = tt
unread_stopped more had left held reads failed faults.Gate p long = tt

-- a trace that was read whole, and its text
pub whole_told : (more : Behind) (had left held holds : Option (List ℕ)) (input : List ℕ) (is_fault : Bool) → Consumes had left input → IsAtEnd left
    → length input ≤ most_bytes → TellsText more held holds input is_fault → TellsTrace more had left held holds is_fault
whole_told more had left held holds input is_fault read end size told = record { input = input; read = read; end = end; size = size; told = told }
