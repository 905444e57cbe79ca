-- What a trace means: its text, and whether it ends with a fault.
use Rattle.std.specs.Prelude.{ℕ, ◌+◌, Bool, true, false, ◌==◌, List, [], ◌∷◌, ◌++◌, Option, Some, None, Result, Ok, Err}
use Rattle.std.specs.List.{slice_split}
use Rattle.trace_lines.specs.Faults.{◌>>=◌}
use Rattle.trace_lines.specs.Lines.{Line, Declares, Makes, line_said, rest_fault}
use Rattle.trace_lines.specs.Text.{fault_line}
use Rattle.bump_trace.specs.Stages.{Stage, Before, Said, say, opened, declared}
use Rattle.bump_trace.specs.OpenStore.{instruction_said}
use Rattle.trace_lines.specs.declared.faults.Fault.{Fault}

-- what a line does at a time
unfoldable pub effect : Stage → ℕ → Line → Result Said Fault
effect stage now (Declares declaration) = declared stage declaration
effect stage now (Makes instruction) = opened stage >>= (λ store. instruction_said store now instruction)

-- what a line does that says something, or nothing
abbrev pub effect_of : Stage → ℕ → Option Line → Result Said Fault
effect_of stage now None = Ok (say stage [])
effect_of stage now (Some line) = effect stage now line

-- a whole line, whose number is the time
unfoldable pub step : Stage → ℕ → List ℕ → Result Said Fault
step stage number line = line_said line >>= effect_of stage number

-- the fault, if it is one
abbrev pub fault_in : {A : Type 0} → Result A Fault → Option Fault
fault_in (Ok value) = None
fault_in (Err what) = Some what

-- the first fault, or the second
abbrev pub or_else : Option Fault → Option Fault → Option Fault
or_else (Some what) other = Some what
or_else None other = other

-- what is wrong with what stands behind the last line feed, or with the stage there
unfoldable pub fault_at_end : Stage → List ℕ → Option Fault
fault_at_end stage rest = or_else (rest_fault rest) (fault_in (opened stage))

-- a text, and whether it ends with the line of a fault
pub record Verdict : Type 0 where
  pub text : List ℕ
  pub is_fault : Bool

-- text before a verdict
abbrev pub prepend : List ℕ → Verdict → Verdict
prepend text verdict = record { text = text ++ verdict.text; is_fault = verdict.is_fault }

-- the end by a fault of line n
abbrev pub failed : ℕ → Fault → Verdict
failed number what = record { text = fault_line number what; is_fault = true }

-- the end of the input at line n
abbrev pub ended : ℕ → Option Fault → Verdict
ended number None = record { text = []; is_fault = false }
ended number (Some what) = failed number what

-- the text of a line, and then what follows; or its fault
abbrev pub go_on : ℕ → (Stage → Verdict) → Result Said Fault → Verdict
go_on number others (Ok said) = prepend said.text (others said.stage)
go_on number others (Err what) = failed number what

-- The lines from number n on. The last part has no line feed behind it.
abbrev pub run : ℕ → List (List ℕ) → Stage → Verdict
run number [] stage = ended number (fault_at_end stage [])
run number (rest ∷ []) stage = ended number (fault_at_end stage rest)
run number (line ∷ next ∷ others) stage = go_on number (run (number + 1) (next ∷ others)) (step stage number line)

-- what stands between line feeds
abbrev pub parts_of : List ℕ → List (List ℕ)
parts_of bytes = slice_split (λ byte. byte == 10) bytes

-- The verdict on an input: its lines from number 1 on, with nothing said before.
unfoldable pub verdict_of : List ℕ → Verdict
verdict_of input = run 1 (parts_of input) Before
