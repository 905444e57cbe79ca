-- Which words the command line takes.
use Rattle.std.specs.Prelude.{◌≡◌, ℕ, ◌^◌, ◌&&◌, nat_le, Bool, true, false, List, [], ◌∷◌, Option, Some, None, Result}
use Rattle.std.specs.Prelude.{Ok, Err, option_map, codes, if◌then◌else◌}
use Rattle.std.specs.Str.{bytes_eq}
use Rattle.clap.specs.Words.{App, Rule, Text, new_app, new_rule, with_rule, fault_of, matches_of, first_of}
use Rattle.clap.specs.declared.builder.ArgAction.TheVariants.{Set}
use Rattle.clap.specs.declared.error.ErrorKind.{ErrorKind}
use Rattle.clap.specs.declared.error.ErrorKind.TheVariants.{OutOfMemory}
use Rattle.trace_lines.specs.Fields.{number_of}
use Rattle.bumpsim.specs.declared.runs.Mode.{Mode}
use Rattle.bumpsim.specs.declared.runs.Mode.TheVariants as mode
use Rattle.bumpsim.specs.declared.runs.Run.{Run}
use Rattle.bumpsim.specs.declared.command_line.Refusal.{Refusal}
use Rattle.bumpsim.specs.declared.command_line.Refusal.TheVariants as refusal

-- a required word with one value
abbrev pub word : Text → Rule
word id = record (new_rule id) { action = Some Set; required = true }

-- a word with one value that may be left out
abbrev pub more : Text → Rule
more id = record (new_rule id) { action = Some Set }

-- a command of two words and maybe a third
abbrev pub app : App
app =
    with_rule (with_rule (with_rule (new_app (codes "bumpsim")) (word (codes "mode"))) (word (codes "file")))
    (more (codes "drainers"))

-- the value of a word, where the command takes all words
abbrev pub value_in : List Text → Text → Option Text
value_in words id = first_of id (matches_of app words)

-- the way of running that a word names
abbrev pub mode_of : Text → Option Mode
mode_of word =
    if bytes_eq word (codes "model") then Some mode.Model
    else (if bytes_eq word (codes "serial") then Some mode.Serial
    else (if bytes_eq word (codes "par") then Some mode.Par else None))

-- that of a word that there is
abbrev pub mode_in : Option Text → Option Mode
mode_in (Some word) = mode_of word
mode_in None = None

-- a number from 1 to 64
abbrev pub in_range : Option ℕ → Option ℕ
in_range (Some n) = if nat_le 1 n && nat_le n 64 then Some n else None
in_range None = None

-- how many drainers a word says: such a number in decimal digits, without leading zeros
abbrev pub drainers_said : Text → Option ℕ
drainers_said word = in_range (number_of (2 ^ 64) word)

-- how many there are: 1 where no word says it, and only a run by threads has a word for it
abbrev pub drainers_in : Mode → Option Text → Option ℕ
drainers_in way None = Some 1
drainers_in mode.Par (Some word) = drainers_said word
drainers_in mode.Model (Some word) = None
drainers_in mode.Serial (Some word) = None

-- a way of running, a file, and a number of drainers that this way of running has
abbrev pub asked : Option Mode → Option Text → Option Text → Option (Mode × Text × ℕ)
asked (Some way) (Some file) drainers = option_map (λ n. (way, file, n)) (drainers_in way drainers)
asked (Some way) None drainers = None
asked None file drainers = None

abbrev pub has_none : {A : Type 0} → List A → Bool
has_none [] = true
has_none (x ∷ xs) = false

-- How to run which file, and how many drainers there are: the command takes the words, the first one names a way of
-- running, and the third one, where there is one, says how many.
abbrev pub asked_run : List Text → Option (Mode × Text × ℕ)
asked_run words =
    if has_none (fault_of app words) then asked
    (mode_in (value_in words (codes "mode")))
    (value_in words (codes "file"))
    (value_in words (codes "drainers"))
    else None

-- want of memory is told from all other errors
abbrev pub refusal_of_error : ErrorKind → Refusal
refusal_of_error OutOfMemory = refusal.Memory
refusal_of_error _ = refusal.Usage

-- Where a run is meant it is the answer, unless memory ran out; where none is, the words are refused.
abbrev pub TakesRun : Option (Mode × Text × ℕ) → Result Run Refusal → Type 0
TakesRun meant (Ok run) = meant ≡ Some (run.mode, run.file.now, run.drainers)
TakesRun meant (Err refusal.Usage) = meant ≡ None
TakesRun meant (Err refusal.Memory) = Unit {0}
