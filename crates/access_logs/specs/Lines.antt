-- The lines of a text, and what each says.
use Rattle.std.specs.Prelude.{ℕ, ◌≡◌, ◌==◌, nat_lt, List, [], ◌∷◌, length, map, ⊤, if◌then◌else◌}
use Rattle.std.specs.Io.BufRead.{ends_with_byte, strip_last}
use Rattle.access_logs.specs.Entries.{Said, Taken, Unread, of_key}
use Rattle.access_logs.specs.declared.log.Defect.TheVariants as defect
use Rattle.access_logs.specs.declared.log.Field.TheVariants as field
use Rattle.access_logs.specs.declared.log.LogFault.{LogFault}
use Rattle.access_logs.specs.declared.log.LogFault.TheVariants as fault

-- lines with one more byte at the front of the first
abbrev pub with_byte : ℕ → List (List ℕ) → List (List ℕ)
with_byte byte [] = (byte ∷ []) ∷ []
with_byte byte (line ∷ lines) = (byte ∷ line) ∷ lines

-- a text, cut behind each line feed: its lines, each with its end
unfoldable pub lines_of : List ℕ → List (List ℕ)
lines_of [] = []
lines_of (byte ∷ bytes) = if byte == 10 then (byte ∷ []) ∷ lines_of bytes else with_byte byte (lines_of bytes)

-- a line without its end: the line feed, and a carriage return just before it
abbrev pub content_of : List ℕ → List ℕ
content_of line = if ends_with_byte 10 line then strip_last 13 (strip_last 10 line) else line

-- how many bytes a key has at most
abbrev pub longest_key : ℕ
longest_key = 65536

-- bytes as a key: none, and more than a key has at most, are no key
abbrev pub entry_of_content : List ℕ → Said
entry_of_content content =
    if length content == 0 then Unread (defect.Lacks field.Key)
    else if nat_lt longest_key (length content) then Unread defect.TooLong
    else Taken (of_key content)

-- what a line says: no line tells anything but a key
unfoldable pub entry_of_line : List ℕ → Said
entry_of_line line = entry_of_content (content_of line)

-- what each line says
abbrev pub entries_of_lines : List ℕ → List Said
entries_of_lines bytes = map entry_of_line (lines_of bytes)

-- the reader failed in the line or record of this number, or memory
abbrev pub IsReadOrMemory : ℕ → LogFault → Type 0
IsReadOrMemory place (fault.Read number cause) = number ≡ place
IsReadOrMemory place fault.TooManyLines = ⊥
IsReadOrMemory place fault.Memory = ⊤
IsReadOrMemory place (fault.Unreadable found) = ⊥
IsReadOrMemory place fault.TooManyKeys = ⊥
IsReadOrMemory place (fault.NoColumn field) = ⊥
