-- What is in a log: what each line or record says.
use Rattle.std.specs.Prelude.{ℕ, ◌+◌, ◌^◌, ◌<◌, ◌≤◌, ◌≡◌, Bool, true, List, [], ◌∷◌, Option, Some, None, is_some}
use Rattle.std.specs.Prelude.{filter_map, count_by, length, ⊤}
use Rattle.access_logs.specs.Keys.{distinct}
use Rattle.access_logs.specs.declared.entries.Entry.{Entry}
use Rattle.access_logs.specs.declared.entries.Entry.TheVariants as entry
use Rattle.access_logs.specs.declared.entries.LogEntry.{LogEntry}
use Rattle.access_logs.specs.declared.log.Defect.{Defect}
use Rattle.access_logs.specs.declared.log.LogFault.{LogFault}
use Rattle.access_logs.specs.declared.log.LogFault.TheVariants as fault
use Rattle.access_logs.specs.declared.log.Unreadable.{Unreadable}
use Rattle.access_logs.specs.declared.operations.Operation.{Operation}

-- an access: the item's key, and its size, its time, what is asked for and how long what is put lasts, each where the
-- log's format has a column for it
pub record Access : Type 0 where
  pub key : List ℕ
  pub size : Option ℕ
  pub time : Option ℕ
  pub operation : Option Operation
  pub ttl : Option ℕ

-- a line or record says an access, or can't be read
pub data Said : Type 0 where
  Taken : Access → Said
  Unread : Defect → Said

-- the access that an entry says
abbrev pub access_of : LogEntry → Access
access_of entry = record { key = entry.key.now; size = entry.size; time = entry.time; operation = entry.operation; ttl = entry.ttl }

-- what an entry says
abbrev pub said_by : Entry → Said
said_by (entry.Access access) = Taken (access_of access)
said_by (entry.Unreadable defect) = Unread defect

-- the access of a key where nothing else is asked for
abbrev pub of_key : List ℕ → Access
of_key key = record { key = key; size = None; time = None; operation = None; ttl = None }

-- the key of a line or record
abbrev pub key_in : Said → Option (List ℕ)
key_in (Taken access) = Some access.key
key_in (Unread defect) = None

-- its size
abbrev pub size_in : Said → Option ℕ
size_in (Taken access) = access.size
size_in (Unread defect) = None

-- its time
abbrev pub time_in : Said → Option ℕ
time_in (Taken access) = access.time
time_in (Unread defect) = None

-- what it asks for
abbrev pub operation_in : Said → Option Operation
operation_in (Taken access) = access.operation
operation_in (Unread defect) = None

-- how long what it puts lasts
abbrev pub ttl_in : Said → Option ℕ
ttl_in (Taken access) = access.ttl
ttl_in (Unread defect) = None

-- why it can't be read
abbrev pub defect_in : Said → Option Defect
defect_in (Taken access) = None
defect_in (Unread defect) = Some defect

-- the keys, in turn
abbrev pub keys_in : List Said → List (List ℕ)
keys_in entries = filter_map key_in entries

-- the sizes, in turn
abbrev pub sizes_in : List Said → List ℕ
sizes_in entries = filter_map size_in entries

-- the times, in turn
abbrev pub times_in : List Said → List ℕ
times_in entries = filter_map time_in entries

-- the operations, in turn
abbrev pub operations_in : List Said → List Operation
operations_in entries = filter_map operation_in entries

-- how long what is put lasts, in turn
abbrev pub ttls_in : List Said → List ℕ
ttls_in entries = filter_map ttl_in entries

-- a line or record can't be read
abbrev pub is_unread : Said → Bool
is_unread entry = is_some (defect_in entry)

-- how many lines or records can't be read
abbrev pub unreadable_in : List Said → ℕ
unreadable_in entries = count_by is_unread entries

-- where one of this number can't be read it is the first such, else the first is among the others
abbrev pub first_of : ℕ → Option Defect → Option Unreadable → Option Unreadable
first_of number None others = others
first_of number (Some defect) others = Some (record { number = number; defect = defect })

-- the first that can't be read, where they are counted from this number on
abbrev pub first_unreadable_in : ℕ → List Said → Option Unreadable
first_unreadable_in number [] = None
first_unreadable_in number (entry ∷ entries) = first_of number (defect_in entry) (first_unreadable_in (number + 1) entries)

-- why a log isn't read: the reader failed in one of its lines or records or just behind them, there are more than a
-- number of 64 bits counts, memory, strictly its first line or record that can't be read, or too many keys
abbrev pub RefusesLog : Bool → ℕ → List Said → LogFault → Type 0
RefusesLog strict first entries (fault.Read number cause) = (0 < number) × (number ≤ first + length entries)
RefusesLog strict first entries fault.TooManyLines = 2 ^ 64 ≤ 1 + first + length entries
RefusesLog strict first entries fault.Memory = ⊤
RefusesLog strict first entries (fault.Unreadable found) = (strict ≡ true)
    × (first_unreadable_in first entries ≡ Some found)
RefusesLog strict first entries fault.TooManyKeys = 4294967295 < length (distinct (keys_in entries))
RefusesLog strict first entries (fault.NoColumn field) = ⊥
