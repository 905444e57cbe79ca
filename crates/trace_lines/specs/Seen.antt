-- The program's lines as the definitions see them, and what its functions return.
use Rattle.std.specs.Prelude.{◌≡◌, ◌==◌, ℕ, false, List, [], length, Option, Some, None, Result, Ok, Err}
use denote.Ref.{Bor}
use Rattle.trace_lines.specs.Lines as lines
use Rattle.trace_lines.specs.declared.faults.Fault.{Fault}
use Rattle.trace_lines.specs.declared.faults.Fault.TheVariants as fault
use Rattle.trace_lines.specs.declared.faults.LineError.{LineError}
use Rattle.trace_lines.specs.declared.faults.LineError.TheVariants as errors
use Rattle.trace_lines.specs.declared.lines.Instruction.{Instruction}
use Rattle.trace_lines.specs.declared.lines.Instruction.TheVariants as instruction
use Rattle.trace_lines.specs.declared.lines.Line.{Line}
use Rattle.trace_lines.specs.declared.lines.Line.TheVariants.{Declares, Makes}
use Rattle.trace_lines.specs.declared.words.LineWords.{LineWords}

-- a command with its names as bytes
abbrev pub seen_instruction : Instruction → lines.Instruction
seen_instruction (instruction.Set start name class label) = lines.Set start name.now class label
seen_instruction (instruction.Get worker name) = lines.Get worker name.now
seen_instruction (instruction.Hold worker name hold) = lines.Hold worker name.now hold.now
seen_instruction (instruction.Hit worker hold) = lines.Hit worker hold.now
seen_instruction (instruction.Read hold) = lines.Read hold.now
seen_instruction (instruction.Drop hold) = lines.Drop hold.now
seen_instruction (instruction.Del name) = lines.Del name.now
seen_instruction (instruction.Pull class tail) = lines.Pull class tail
seen_instruction (instruction.Sweep class) = lines.Sweep class
seen_instruction instruction.Drain = lines.Drain
seen_instruction (instruction.Close worker) = lines.Close worker
seen_instruction instruction.Show = lines.Show
seen_instruction instruction.Moves = lines.Moves
seen_instruction instruction.Par = lines.Par

-- a line with its names as bytes
abbrev pub seen_line : Line → lines.Line
seen_line (Declares declaration) = lines.Declares declaration
seen_line (Makes instruction) = lines.Makes (seen_instruction instruction)

-- What a function returned, seen by view, is what reading gives.
abbrev pub Gives : {X Y : Type 0} → (X → Y) → Result X Fault → Result Y Fault → Type 0
Gives view (Ok value) read = read ≡ Ok (view value)
Gives view (Err what) read = read ≡ Err what

-- a line, if there is one
abbrev pub seen_said : Option Line → Option lines.Line
seen_said None = None
seen_said (Some line) = Some (seen_line line)

-- What a line was read as is what it says: reading wants no memory.
abbrev pub ReadsAs : Result (Option Line) LineError → Result (Option lines.Line) Fault → Type 0
ReadsAs (Ok read) said = said ≡ Ok (seen_said read)
ReadsAs (Err errors.Memory) said = ⊥
ReadsAs (Err (errors.Fault fault)) said = said ≡ Err fault

-- the words in what is left of a line, if anything is
abbrev pub words_of_rest : Option (Bor (List ℕ)) → List (List ℕ)
words_of_rest None = []
words_of_rest (Some rest) = lines.split_at_spaces rest.now

-- the words that are still to be read, as bytes
abbrev pub words_of : LineWords → List (List ℕ)
words_of words = words_of_rest words.rest

-- What a function returned are all words, which are so many. Else it is COUNT.
abbrev pub AreWords : {X : Type 0} → ℕ → (X → List (List ℕ)) → Result X Fault → List (List ℕ) → Type 0
AreWords count view (Ok words) all = all ≡ view words
AreWords count view (Err what) all = ((length all == count) ≡ false) × (what ≡ fault.Count)
