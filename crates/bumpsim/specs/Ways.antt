-- Which run a mode is.
use Rattle.std.specs.Prelude.{ℕ, ⊤, List, Option, Result, IfErr, OnOk}
use Rattle.bump_trace.specs.Runs.{ModelRuns}
use Rattle.bump_trace.specs.declared.runs.SimFault.{SimFault}
use Rattle.store_trace.specs.Runs.{Behind, NoMore, Reported, StoreRuns, IsOfOneThread}
use Rattle.bumpsim.specs.declared.runs.Mode.{Mode}
use Rattle.bumpsim.specs.declared.runs.Mode.TheVariants as mode

-- By its mode, which of the three runs gave this answer, and that by threads with how many drainers.
abbrev pub RanAs : (Result ⊤ SimFault → Type 0) → (Result ⊤ SimFault → Type 0)
    → (ℕ → Result ⊤ SimFault → Type 0) → Mode → ℕ → Result ⊤ SimFault → Type 0
RanAs models serials pars mode.Model drainers answer = models answer
RanAs models serials pars mode.Serial drainers answer = serials answer
RanAs models serials pars mode.Par drainers answer = pars drainers answer

-- What is in a file, and what becomes of standard output, no clause can say. So it is said of some bytes that a reader
-- had and has left, and that a writer held and holds: whatever they are, it is what this run makes of them.

-- a run on a World
abbrev pub RanModel : Result ⊤ SimFault → Type 0
RanModel answer = (had : Option (List ℕ)) × (left : Option (List ℕ)) × (held : Option (List ℕ))
    × (holds : Option (List ℕ)) × ModelRuns had left held holds answer

-- a run on a store, which tells this behind its lines
abbrev pub RanStore : Behind → Result ⊤ SimFault → Type 0
RanStore more answer = (had : Option (List ℕ)) × (left : Option (List ℕ)) × (held : Option (List ℕ))
    × (holds : Option (List ℕ)) × StoreRuns more had left held holds answer

-- one by one thread, which tells nothing more, starts no other thread, and has no gate
abbrev pub RanSerial : Result ⊤ SimFault → Type 0
RanSerial answer = RanStore NoMore answer × IfErr answer IsOfOneThread

-- The gate of the program was told that so many drainers were asked for. Nothing but its own `begin` opens this, so
-- that it is known only where a run told it that.
unfoldable pub HaveBegun : ℕ → Type 0
HaveBegun drainers = Unit {0}

-- one by threads, which ends with their report, with so many drainers asked for
abbrev pub RanPar : ℕ → Result ⊤ SimFault → Type 0
RanPar drainers answer = RanStore Reported answer × OnOk answer (HaveBegun drainers)
