-- The lines of a trace: the table of their first words and fields, and how a line is read by it.
use Rattle.std.specs.Prelude.{ℕ, Bool, true, false, ◌==◌, nat_lt, List, [], ◌∷◌, find, length, codes, Option, Some}
use Rattle.std.specs.Prelude.{None, Result, Ok, Err, if◌then◌else◌}
use Rattle.std.specs.List.{slice_split}
use Rattle.std.specs.Str.{bytes_eq}
use Rattle.bump_rules.specs.declared.places.Start.{Start}
use Rattle.bump_rules.specs.declared.places.Start.TheVariants as start
use Rattle.bump_rules.specs.declared.places.Tail.{Tail}
use Rattle.trace_lines.specs.Faults.{◌>>=◌}
use Rattle.trace_lines.specs.Fields.{Kind, U32, U64, Name, Segment, Value, field}
use Rattle.trace_lines.specs.declared.faults.Fault.{Fault}
use Rattle.trace_lines.specs.declared.faults.Fault.TheVariants as fault
use Rattle.trace_lines.specs.declared.keywords.Keyword.{Keyword}
use Rattle.trace_lines.specs.declared.keywords.Keyword.TheVariants as keyword
use Rattle.trace_lines.specs.declared.lines.Declaration.{Declaration}
use Rattle.trace_lines.specs.declared.lines.Declaration.TheVariants.{Store, Class}

-- what is done on an open store, with the fields of its line
pub data Instruction : Type 0 where
  Set : Start → List ℕ → ℕ → ℕ → Instruction
  Get : ℕ → List ℕ → Instruction
  Hold : ℕ → List ℕ → List ℕ → Instruction
  Hit : ℕ → List ℕ → Instruction
  Read : List ℕ → Instruction
  Drop : List ℕ → Instruction
  Del : List ℕ → Instruction
  Pull : ℕ → Tail → Instruction
  Sweep : ℕ → Instruction
  Drain : Instruction
  Close : ℕ → Instruction
  Show : Instruction
  Moves : Instruction
  Par : Instruction

-- Behind `par` stand these lines alone: a worker's thread makes gets, and the maintenance thread the others.
abbrev pub may_follow_par : Instruction → Bool
may_follow_par (Get worker name) = true
may_follow_par (Del name) = true
may_follow_par (Pull class segment) = true
may_follow_par (Sweep class) = true
may_follow_par Drain = true
may_follow_par _ = false

-- A line says what the store is, or what is done on it.
pub data Line : Type 0 where
  Declares : Declaration → Line
  Makes : Instruction → Line

-- with a value for each kind, a line
abbrev pub LineFrom : List Kind → Type 0
LineFrom [] = Line
LineFrom (kind ∷ kinds) = Value kind → LineFrom kinds

-- the first words of lines
abbrev pub keyword_word : Keyword → List ℕ
keyword_word keyword.Store = codes "store"
keyword_word keyword.Class = codes "class"
keyword_word keyword.Set = codes "set"
keyword_word keyword.Temp = codes "temp"
keyword_word keyword.Get = codes "get"
keyword_word keyword.Hold = codes "hold"
keyword_word keyword.Hit = codes "hit"
keyword_word keyword.Read = codes "read"
keyword_word keyword.Drop = codes "drop"
keyword_word keyword.Del = codes "del"
keyword_word keyword.Pull = codes "pull"
keyword_word keyword.Sweep = codes "sweep"
keyword_word keyword.Drain = codes "drain"
keyword_word keyword.Close = codes "close"
keyword_word keyword.Show = codes "show"
keyword_word keyword.Moves = codes "moves"
keyword_word keyword.Par = codes "par"

-- all of them
abbrev pub all_keywords : List Keyword
all_keywords =
    keyword.Store ∷ keyword.Class ∷ keyword.Set ∷ keyword.Temp ∷ keyword.Get ∷ keyword.Hold ∷ keyword.Hit ∷
    keyword.Read ∷ keyword.Drop ∷ keyword.Del ∷ keyword.Pull ∷ keyword.Sweep ∷ keyword.Drain ∷ keyword.Close ∷
    keyword.Show ∷ keyword.Moves ∷ keyword.Par ∷ []

-- the first word that these bytes are
abbrev pub keyword_of : List ℕ → Option Keyword
keyword_of word = find (λ keyword. bytes_eq word (keyword_word keyword)) all_keywords

-- a value for each kind
abbrev pub Values : List Kind → Type 0
Values [] = Unit {0}
Values (kind ∷ kinds) = Value kind × Values kinds

-- the line that has these values
abbrev pub line_with : (kinds : List Kind) → LineFrom kinds → Values kinds → Line
line_with [] line values = line
line_with (kind ∷ kinds) line values = line_with kinds (line values.0) values.1

-- a value and those behind it, or the first fault
abbrev pub first_fault_of : {A B : Type 0} → Result A Fault → Result B Fault → Result (A × B) Fault
first_fault_of (Ok value) (Ok values) = Ok (value, values)
first_fault_of (Ok value) (Err what) = Err what
first_fault_of (Err what) values = Err what

-- words as fields of these kinds, from left to right, where they are as many
abbrev pub fields_in : (kinds : List Kind) → List (List ℕ) → Result (Values kinds) Fault
fields_in (kind ∷ kinds) (word ∷ words) = first_fault_of (field kind word) (fields_in kinds words)
fields_in [] words = Ok tt
fields_in kinds words = Err fault.Count

-- COUNT comes before what is wrong with any field.
abbrev pub values_of : (kinds : List Kind) → List (List ℕ) → Result (Values kinds) Fault
values_of kinds words = if length words == length kinds then fields_in kinds words else Err fault.Count

-- the line with these words as its fields
abbrev pub fields_of : (kinds : List Kind) → LineFrom kinds → List (List ℕ) → Result Line Fault
fields_of kinds line words = values_of kinds words >>= (λ values. Ok (line_with kinds line values))

-- The table: a row for each line that a trace may have, with the kinds of its fields, and the line that it is with
-- such fields.
abbrev pub by_row : Keyword → List (List ℕ) → Result Line Fault
by_row keyword.Store words = fields_of (U32 ∷ U32 ∷ U32 ∷ U32 ∷ []) (λ workers capacity refs generation.
    Declares (Store (record {
      workers = workers;
      capacity = capacity;
      refs_limit = refs;
      first_generation = generation;
    }))) words
by_row keyword.Class words = fields_of (U32 ∷ U32 ∷ U32 ∷ []) (λ chunks hot warm.
    Declares (Class (record { chunks = chunks; hot = hot; warm = warm }))) words
by_row keyword.Set words =
    fields_of (Name ∷ U32 ∷ U64 ∷ []) (λ name class label. Makes (Set start.Hot name class label)) words
by_row keyword.Temp words =
    fields_of (Name ∷ U32 ∷ U64 ∷ []) (λ name class label. Makes (Set start.Temp name class label)) words
by_row keyword.Get words = fields_of (U32 ∷ Name ∷ []) (λ worker name. Makes (Get worker name)) words
by_row keyword.Hold words = fields_of (U32 ∷ Name ∷ Name ∷ []) (λ worker name hold. Makes (Hold worker name hold)) words
by_row keyword.Hit words = fields_of (U32 ∷ Name ∷ []) (λ worker hold. Makes (Hit worker hold)) words
by_row keyword.Read words = fields_of (Name ∷ []) (λ hold. Makes (Read hold)) words
by_row keyword.Drop words = fields_of (Name ∷ []) (λ hold. Makes (Drop hold)) words
by_row keyword.Del words = fields_of (Name ∷ []) (λ name. Makes (Del name)) words
by_row keyword.Pull words = fields_of (U32 ∷ Segment ∷ []) (λ class segment. Makes (Pull class segment)) words
by_row keyword.Sweep words = fields_of (U32 ∷ []) (λ class. Makes (Sweep class)) words
by_row keyword.Drain words = fields_of [] (Makes Drain) words
by_row keyword.Close words = fields_of (U32 ∷ []) (λ worker. Makes (Close worker)) words
by_row keyword.Show words = fields_of [] (Makes Show) words
by_row keyword.Moves words = fields_of [] (Makes Moves) words
by_row keyword.Par words = fields_of [] (Makes Par) words

-- COMMAND where there is no such first word, else the fields by its row
abbrev pub by_keyword : Option Keyword → List (List ℕ) → Result Line Fault
by_keyword None fields = Err fault.Command
by_keyword (Some keyword) fields = by_row keyword fields

-- what a line says, by the row of its first word
unfoldable pub line_of : List ℕ → List (List ℕ) → Result Line Fault
line_of word fields = by_keyword (keyword_of word) fields

-- The words of a line are what stands between spaces. Two words have exactly one space between them, so another space
-- makes an empty word.
abbrev pub split_at_spaces : List ℕ → List (List ℕ)
split_at_spaces line = slice_split (λ b. b == 32) line

-- what a line says, by its words
unfoldable pub line_of_words : List (List ℕ) → Result Line Fault
line_of_words [] = Err fault.Command
line_of_words (word ∷ fields) = line_of word fields

-- more than 255 bytes
abbrev pub is_long : List ℕ → Bool
is_long line = nat_lt 255 (length line)

-- a line without bytes, or a comment: its first byte is #
abbrev pub is_skipped : List ℕ → Bool
is_skipped [] = true
is_skipped (byte ∷ bytes) = byte == 35

-- what a whole line says: nothing, where it is skipped
unfoldable pub line_said : List ℕ → Result (Option Line) Fault
line_said line =
    if is_long line then Err fault.Long
    else (if is_skipped line then Ok None else (line_of_words (split_at_spaces line) >>= (λ said. Ok (Some said))))

-- what is wrong with what stands behind the last line feed
abbrev pub rest_fault : List ℕ → Option Fault
rest_fault rest =
    if is_long rest then Some fault.Long else (if length rest == 0 then None else Some fault.Truncated)
