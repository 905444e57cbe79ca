-- What a line says, by what it was read as.
use Rattle.std.proofs.Common.{◌≡◌, ℕ, List, [], Option, Some, None, Result, Ok, Err, refl, sym, ap, ◌∙◌, subst}
use Rattle.bump_trace.specs.Meaning.{step, effect, effect_of, fault_in, fault_at_end, or_else}
use Rattle.bump_trace.specs.OpenStore.{instruction_said}
use Rattle.bump_trace.specs.Stages.{Stage, Open, StoreState, declared, opened, say}
use Rattle.bump_trace.specs.Views.{FailsBy}
use Rattle.trace_lines.specs.Faults.{◌>>=◌}
use Rattle.trace_lines.specs.Lines as lines
use Rattle.trace_lines.specs.Lines.{Declares, Makes, Instruction, line_said, rest_fault}
use Rattle.trace_lines.specs.Seen.{ReadsAs, seen_said, seen_line, seen_instruction}
use Rattle.trace_lines.specs.declared.faults.Fault.{Fault}
use Rattle.trace_lines.specs.declared.faults.Fault.TheVariants as fault
use Rattle.trace_lines.specs.declared.faults.LineError.{LineError}
use Rattle.trace_lines.specs.declared.faults.LineError.TheVariants as errors
use Rattle.trace_lines.specs.declared.lines.Declaration.{Declaration}
use Rattle.trace_lines.specs.declared.lines.Declaration.TheVariants.{Store, Class}
use Rattle.trace_lines.specs.declared.lines.Instruction.{Instruction as TheInstruction}
use Rattle.trace_lines.specs.declared.lines.Line.{Line}
use Rattle.trace_lines.specs.declared.lines.Line.TheVariants as said_line
use Rattle.std.specs.Prelude.{⊤}
use Rattle.std.specs.Result.{IfErr, OnOk}
use Rattle.store_trace.specs.Endings.{Passes, HasFault, Leaves}
use Rattle.store_trace.specs.OpenStores.{IsMeantFault as FailsAsMeant, FailsAs, MayStand}
use Rattle.store_trace.specs.declared.stops.Stop.{Stop}
use Rattle.store_trace.specs.declared.stops.Stop.TheVariants as stops
use Rattle.store_trace.specs.declared.openings.Beginning.{Beginning}
use Rattle.store_trace.specs.declared.openings.StoppedLine.{StoppedLine}

-- a line says this, so that it does what this does
pub step_said : (s : Stage) (n : ℕ) (line : List ℕ) (said : Option lines.Line) → line_said line ≡ Ok said → step s n line ≡ effect_of s n said
unfolding step
step_said s n line said is = ap (λ (r : Result (Option lines.Line) Fault). r >>= effect_of s n) is

-- a line that can't be read
pub unread_fault : (s : Stage) (n : ℕ) (line : List ℕ) (error : LineError) → ReadsAs (Err error) (line_said line) → HasFault s n line error
unfolding step
unread_fault s n line errors.Memory p = tt
unread_fault s n line (errors.Fault what) p = ap (λ (r : Result (Option lines.Line) Fault). fault_in (r >>= effect_of s n)) p

-- a skipped line
pub skipped_passes : (s : Stage) (n : ℕ) (line : List ℕ) → line_said line ≡ Ok None → Passes s n line s
skipped_passes s n line is = record { fault = ap fault_in (step_said s n line None is); said = None; reads = is; follows = refl }

-- a line that says what the store is, and may stand here
pub declared_passes : (s next : Stage) (n : ℕ) (line : List ℕ) (declaration : Declaration) → line_said line ≡ Ok (Some (Declares declaration)) → declared s declaration ≡ Ok (say next [])
    → Passes s n line next
unfolding effect
declared_passes s next n line declaration is may = record {
  fault = ap fault_in (step_said s n line (Some (Declares declaration)) is ∙ may);
  said = Some (Declares declaration);
  reads = is;
  follows = may;
}

-- and one that may not
pub undeclared_fault : (s : Stage) (n : ℕ) (line : List ℕ) (declaration : Declaration) (error : LineError) → line_said line ≡ Ok (Some (Declares declaration))
    → FailsBy error (declared s declaration) → HasFault s n line error
unfolding effect
undeclared_fault s n line declaration errors.Memory is p = tt
undeclared_fault s n line declaration (errors.Fault what) is p = ap fault_in (step_said s n line (Some (Declares declaration)) is ∙ p)

-- what is wrong at the end of the input: what stands behind the last line feed, before the store
pub rest_first : (s : Stage) (rest : List ℕ) (what : Fault) → rest_fault rest ≡ Some what → fault_at_end s rest ≡ Some what
unfolding fault_at_end
rest_first s rest what is = ap (λ (f : Option Fault). or_else f (fault_in (opened s))) is

pub store_then : (s : Stage) (rest : List ℕ) (what : Fault) → rest_fault rest ≡ None → opened s ≡ Err what → fault_at_end s rest ≡ Some what
unfolding fault_at_end
store_then s rest what none is = ap (λ (f : Option Fault). or_else f (fault_in (opened s))) none ∙ ap fault_in is

-- a line was read as nothing
pub said_none : (line : List ℕ) (read : Option Line) → line_said line ≡ Ok (seen_said read) → read ≡ None → line_said line ≡ Ok None
said_none line read is none = is ∙ ap (λ (r : Option Line). let said : Result (Option lines.Line) Fault = Ok (seen_said r) in said) none

-- a line was read as something
pub said_some : (line : List ℕ) (read : Option Line) (some : Line) → line_said line ≡ Ok (seen_said read) → read ≡ Some some → line_said line ≡ Ok (Some (seen_line some))
said_some line read some is there = is ∙ ap (λ (r : Option Line). let said : Result (Option lines.Line) Fault = Ok (seen_said r) in said) there

-- a store that isn't opened is what is wrong at the end of the input, where nothing stands behind the last line feed
pub store_stopped : (begun : Result Beginning StoppedLine) (s : Stage) (rest : List ℕ) → rest_fault rest ≡ None
    → IfErr begun (λ stopped. (what : Fault) × (stopped.error ≡ errors.Fault what) × (opened s ≡ Err what))
    → IfErr begun (λ stopped. (what : Fault) × (stopped.error ≡ errors.Fault what) × (fault_at_end s rest ≡ Some what))
store_stopped (Ok begun) s rest none p = tt
store_stopped (Err stopped) s rest none p = (p.0, p.1, store_then s rest p.0 none p.2)

-- a line was read as one that says what the store is
pub said_declares : (line : List ℕ) (read : Option Line) (some : Line) (declaration : Declaration) → line_said line ≡ Ok (seen_said read) → read ≡ Some some → some ≡ said_line.Declares declaration
    → line_said line ≡ Ok (Some (Declares declaration))
said_declares line read some declaration is there declares =
    said_some line read some is there ∙ ap (λ (l : Line). let said : Result (Option lines.Line) Fault = Ok (Some (seen_line l)) in said) declares

-- the first command, where the store that it opens can't be
pub unopened_fault : (s : Stage) (n : ℕ) (line : List ℕ) (i : Instruction) (what : Fault) → line_said line ≡ Ok (Some (Makes i)) → opened s ≡ Err what
    → fault_in (step s n line) ≡ Some what
unfolding effect
unopened_fault s n line i what is none =
    ap fault_in (step_said s n line (Some (Makes i)) is) ∙ ap (λ (r : Result StoreState Fault). fault_in (r >>= (λ st. instruction_said st n i))) none

-- no line says what the store is once it is open
open_declared : (store : StoreState) (declaration : Declaration) → declared (Open store) declaration ≡ Err fault.Order
unfolding declared
open_declared store (Store shape) = refl
open_declared store (Class class) = refl

pub open_order : (store : StoreState) (n : ℕ) (line : List ℕ) (declaration : Declaration) → line_said line ≡ Ok (Some (Declares declaration)) → fault_in (step (Open store) n line) ≡ Some fault.Order
unfolding effect
open_order store n line declaration is = ap fault_in (step_said (Open store) n line (Some (Declares declaration)) is ∙ open_declared store declaration)

-- a line was read as one that is made on an open store
pub said_makes : (line : List ℕ) (read : Option Line) (some : Line) (i : TheInstruction) → line_said line ≡ Ok (seen_said read) → read ≡ Some some → some ≡ said_line.Makes i
    → line_said line ≡ Ok (Some (Makes (seen_instruction i)))
said_makes line read some i is there makes =
    said_some line read some is there ∙ ap (λ (l : Line). let said : Result (Option lines.Line) Fault = Ok (Some (seen_line l)) in said) makes

-- it does on the store what it says
open_makes : (store : StoreState) (n : ℕ) (line : List ℕ) (i : Instruction) → line_said line ≡ Ok (Some (Makes i)) → step (Open store) n line ≡ instruction_said store n i
unfolding effect opened
open_makes store n line i is = step_said (Open store) n line (Some (Makes i)) is

-- so it has no fault, and its line none
pub makes_passes : (store new : StoreState) (n : ℕ) (line : List ℕ) (i : Instruction) → line_said line ≡ Ok (Some (Makes i)) → fault_in (instruction_said store n i) ≡ None
    → Leaves i store new → Passes (Open store) n line (Open new)
unfolding opened
makes_passes store new n line i is none leaves = record {
  fault = ap fault_in (open_makes store n line i is) ∙ none;
  said = Some (Makes i);
  reads = is;
  follows = (store, new, refl, leaves, refl);
}

-- or a fault, and its line that one
pub makes_fault : (store : StoreState) (n : ℕ) (line : List ℕ) (i : Instruction) (meant : Option Fault) → line_said line ≡ Ok (Some (Makes i))
    → fault_in (instruction_said store n i) ≡ meant → fault_in (step (Open store) n line) ≡ meant
makes_fault store n line i meant is p = ap fault_in (open_makes store n line i is) ∙ p

-- the same by what checking the line answered
pub checked_fault : (store : StoreState) (n : ℕ) (line : List ℕ) (i : Instruction) (r : Result ⊤ LineError) → line_said line ≡ Ok (Some (Makes i))
    → IfErr r (λ error. FailsAsMeant error (fault_in (instruction_said store n i))) → IfErr r (λ error. HasFault (Open store) n line error)
checked_fault store n line i (Ok _) is p = tt
checked_fault store n line i (Err errors.Memory) is p = tt
checked_fault store n line i (Err (errors.Fault what)) is p = makes_fault store n line i (Some what) is p

pub checked_passes : (store : StoreState) (n : ℕ) (line : List ℕ) (i : Instruction) (r : Result ⊤ LineError) → line_said line ≡ Ok (Some (Makes i))
    → OnOk r (MayStand store n i) → OnOk r (Passes (Open store) n line (Open store))
checked_passes store n line i (Ok _) is p = makes_passes store store n line i is p.0 p.1
checked_passes store n line i (Err e) is p = tt

-- at the end of the input with an open store, only what stands behind the last line feed can be wrong
pub open_end : (store : StoreState) (rest : List ℕ) (meant : Option Fault) → rest_fault rest ≡ meant → fault_at_end (Open store) rest ≡ meant
unfolding fault_at_end opened
open_end store rest None is = ap (λ (f : Option Fault). or_else f None) is
open_end store rest (Some what) is = ap (λ (f : Option Fault). or_else f None) is

-- an open store is open
pub is_open : (store : StoreState) → opened (Open store) ≡ Ok store
unfolding opened
is_open store = refl

-- a line that couldn't be read was not run
pub unread_fails : (s : Stage) (n : ℕ) (line : List ℕ) (error : LineError) → HasFault s n line error → FailsAs (Err (stops.Line error)) (fault_in (step s n line))
unread_fails s n line errors.Memory p = tt
unread_fails s n line (errors.Fault what) p = p

-- a line that was run, or was not
pub run_fails : (store : StoreState) (n : ℕ) (line : List ℕ) (i : Instruction) (r : Result ⊤ Stop) → line_said line ≡ Ok (Some (Makes i))
    → FailsAs r (fault_in (instruction_said store n i)) → FailsAs r (fault_in (step (Open store) n line))
run_fails store n line i r is p = subst (FailsAs r) (sym (ap fault_in (open_makes store n line i is))) p

pub run_passes : (store new : StoreState) (n : ℕ) (line : List ℕ) (i : Instruction) (r : Result ⊤ Stop) → line_said line ≡ Ok (Some (Makes i))
    → FailsAs r (fault_in (instruction_said store n i)) → OnOk r (Leaves i store new) → OnOk r (Passes (Open store) n line (Open new))
run_passes store new n line i (Ok _) is p leaves = makes_passes store new n line i is p leaves
run_passes store new n line i (Err e) is p leaves = tt
