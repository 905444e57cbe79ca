-- How the program ends after a failure.
use Rattle.std.specs.Prelude.{◌≡◌, ℕ, ⊤, List, codes, Option, Some, None, Result, Ok, Err}
use Rattle.std.specs.Borrow.{Bor}
use Rattle.bump_trace.specs.declared.runs.SimFault.{SimFault}
use Rattle.bump_trace.specs.declared.runs.SimFault.TheVariants as fault
use Rattle.bumpsim.specs.declared.Failure.{Failure}
use Rattle.bumpsim.specs.declared.Failure.TheVariants as failure
use Rattle.bumpsim.specs.declared.runs.Mode.{Mode}
use Rattle.bumpsim.specs.Ways.{RanAs}

-- 3 where the words are no command, 2 where the trace has a fault, 1 where it could not be run
abbrev pub status_of : Failure → ℕ
status_of failure.Usage = 3
status_of (failure.Run fault.Trace) = 2
status_of (failure.Run fault.Read) = 1
status_of (failure.Run fault.Size) = 1
status_of (failure.Run fault.Write) = 1
status_of (failure.Run fault.Memory) = 1
status_of (failure.Run fault.Threads) = 1
status_of (failure.Run fault.Ring) = 1
status_of (failure.Run fault.Gate) = 1

-- 0 where all was well
abbrev pub status_by : Result ⊤ SimFault → ℕ
status_by (Ok _) = 0
status_by (Err e) = status_of (failure.Run e)

-- The status is that of an answer of the run that the mode names.
abbrev pub EndsByRun : (Result ⊤ SimFault → Type 0) → (Result ⊤ SimFault → Type 0)
    → (ℕ → Result ⊤ SimFault → Type 0) → Mode → ℕ → ℕ → Type 0
EndsByRun models serials pars mode drainers status =
    (answer : Result ⊤ SimFault) × RanAs models serials pars mode drainers answer × (status ≡ status_by answer)

-- the word is this text
abbrev pub IsText : Option (Bor (List ℕ)) → List ℕ → Type 0
IsText (Some word) text = word.now ≡ text
IsText None text = ⊥

-- the word on standard error: none for a fault of the trace, which is the last line of the text
abbrev pub IsWordOf : Failure → Option (Bor (List ℕ)) → Type 0
IsWordOf failure.Usage word = IsText word (codes "usage")
IsWordOf (failure.Run fault.Trace) word = word ≡ None
IsWordOf (failure.Run fault.Read) word = IsText word (codes "read")
IsWordOf (failure.Run fault.Size) word = IsText word (codes "size")
IsWordOf (failure.Run fault.Write) word = IsText word (codes "write")
IsWordOf (failure.Run fault.Memory) word = IsText word (codes "memory")
IsWordOf (failure.Run fault.Threads) word = IsText word (codes "threads")
IsWordOf (failure.Run fault.Ring) word = IsText word (codes "ring")
IsWordOf (failure.Run fault.Gate) word = IsText word (codes "gate")
