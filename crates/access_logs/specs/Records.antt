-- The records of a CSV text, and what each says.
use Rattle.std.specs.Prelude.{ℕ, ◌+◌, ◌-◌, ◌≡◌, ◌==◌, ◌++◌, ◌||◌, ⊤, true, false, Result, Ok, Err, nat_lt, Bool, List, [], ◌∷◌, length, map, drop, replicate, Option, Some, None, IfSome}
use Rattle.std.specs.Prelude.{option_and_then, option_map, if◌then◌else◌}
use Rattle.std.specs.Io.KnownBytes.{append_known}
use Rattle.csv.specs.Reading.{Ready, records, records_from, default_config, reader_config, reader_state, reader_trim, source_of, strip_bom}
use Rattle.csv.specs.Records.{field_at}
use Rattle.csv.specs.declared.reader.Reader.{Reader}
use Rattle.csv.specs.declared.reader.Trim.TheVariants as trim
use Rattle.access_logs.specs.Columns.{has_name, columns_in}
use Rattle.access_logs.specs.Drafts.{IsLogOf}
use Rattle.access_logs.specs.Entries.{Said, Taken, Unread, RefusesLog}
use Rattle.access_logs.specs.Lines.{longest_key}
use Rattle.access_logs.specs.Numerals.{size_of_field, time_of_field, ttl_of_field}
use Rattle.access_logs.specs.Operations.{operation_of}
use Rattle.access_logs.specs.declared.log.Defect.TheVariants as defect
use Rattle.access_logs.specs.declared.log.Field.{Field}
use Rattle.access_logs.specs.declared.log.Field.TheVariants as field
use Rattle.access_logs.specs.declared.log.Log.{Log}
use Rattle.access_logs.specs.declared.log.LogFault.{LogFault}
use Rattle.access_logs.specs.declared.log.LogFault.TheVariants as fault
use Rattle.access_logs.specs.declared.operations.Operation.{Operation}
use Rattle.access_logs.specs.declared.padded.Padded.{Padded}
use Rattle.access_logs.specs.declared.patient.Patient.{Patient}
use Rattle.access_logs.specs.declared.columns.AskedColumns.{AskedColumns}
use Rattle.access_logs.specs.declared.columns.Columns.{Columns}

-- a field as a key: an empty one is none
abbrev pub key_of_field : List ℕ → Option (List ℕ)
key_of_field field = if length field == 0 then None else Some field

-- the key of a record: the field in the column, where it has one that isn't empty
abbrev pub key_of_record : ℕ → List (List ℕ) → Option (List ℕ)
key_of_record column fields = option_and_then key_of_field (field_at fields column)

-- the size of a record: the number in the field in the column, where it has one that is a number
abbrev pub size_of_record : ℕ → List (List ℕ) → Option ℕ
size_of_record column fields = option_and_then size_of_field (field_at fields column)

-- the time of a record, likewise
abbrev pub time_of_record : ℕ → List (List ℕ) → Option ℕ
time_of_record column fields = option_and_then time_of_field (field_at fields column)

-- the operation of a record: what the field in the column names, where it has one
abbrev pub operation_of_record : ℕ → List (List ℕ) → Option Operation
operation_of_record column fields = option_map operation_of (field_at fields column)

-- how long what a record puts lasts: the number in the field in the column, where it has one that is a number
abbrev pub ttl_of_record : ℕ → List (List ℕ) → Option ℕ
ttl_of_record column fields = option_and_then ttl_of_field (field_at fields column)

-- the size where one is asked for: nothing only where the record doesn't tell it
abbrev pub asked_size : Option ℕ → List (List ℕ) → Option (Option ℕ)
asked_size None fields = Some None
asked_size (Some column) fields = option_map (λ size. Some size) (size_of_record column fields)

-- the time where one is asked for, likewise
abbrev pub asked_time : Option ℕ → List (List ℕ) → Option (Option ℕ)
asked_time None fields = Some None
asked_time (Some column) fields = option_map (λ time. Some time) (time_of_record column fields)

-- the operation where one is asked for, likewise
abbrev pub asked_operation : Option ℕ → List (List ℕ) → Option (Option Operation)
asked_operation None fields = Some None
asked_operation (Some column) fields = option_map (λ operation. Some operation) (operation_of_record column fields)

-- how long what is put lasts where that is asked for, likewise
abbrev pub asked_ttl : Option ℕ → List (List ℕ) → Option (Option ℕ)
asked_ttl None fields = Some None
asked_ttl (Some column) fields = option_map (λ ttl. Some ttl) (ttl_of_record column fields)

-- how many bytes fields have in all
abbrev pub bytes_in : List (List ℕ) → ℕ
bytes_in [] = 0
bytes_in (first ∷ fields) = length first + bytes_in fields

-- the fields have more bytes than a key has at most
abbrev pub is_long : List (List ℕ) → Bool
is_long fields = nat_lt longest_key (bytes_in fields)

-- what a record with this key, size, time and operation says, if it tells its ttl where one is asked for
abbrev pub with_ttl : List ℕ → Option ℕ → Option ℕ → Option Operation → Option (Option ℕ) → Said
with_ttl key size time operation None = Unread (defect.Lacks field.Ttl)
with_ttl key size time operation (Some ttl) = Taken (record { key = key; size = size; time = time; operation = operation; ttl = ttl })

-- what a record with this key, size and time says, if it has an operation where one is asked for
abbrev pub with_operation : List ℕ → Option ℕ → Option ℕ → Option (Option Operation) → Option (Option ℕ) → Said
with_operation key size time None ttl = Unread (defect.Lacks field.Operation)
with_operation key size time (Some operation) ttl = with_ttl key size time operation ttl

-- what a record with this key and size says, if it tells its time where one is asked for
abbrev pub with_time : List ℕ → Option ℕ → Option (Option ℕ) → Option (Option Operation) → Option (Option ℕ) → Said
with_time key size None operation ttl = Unread (defect.Lacks field.Time)
with_time key size (Some time) operation ttl = with_operation key size time operation ttl

-- what a record with this key says, if it tells its size where one is asked for
abbrev pub with_size : List ℕ → Option (Option ℕ) → Option (Option ℕ) → Option (Option Operation) → Option (Option ℕ) → Said
with_size key None time operation ttl = Unread (defect.Lacks field.Size)
with_size key (Some size) time operation ttl = with_time key size time operation ttl

-- what a record says, if it has a key
abbrev pub with_key : Option (List ℕ) → Option (Option ℕ) → Option (Option ℕ) → Option (Option Operation) → Option (Option ℕ) → Said
with_key None size time operation ttl = Unread (defect.Lacks field.Key)
with_key (Some key) size time operation ttl = with_size key size time operation ttl

-- what a record says
abbrev pub entry_of_record : Columns → List (List ℕ) → Said
entry_of_record columns fields =
    if is_long fields then Unread defect.TooLong
    else with_key (key_of_record columns.key fields) (asked_size columns.size fields) (asked_time columns.time fields)
    (asked_operation columns.operation fields) (asked_ttl columns.ttl fields)

-- line feeds, one more than a record has bytes at most: behind a text they are no records, but a quote that is never
-- closed takes them, and its record is too long then
abbrev pub line_feeds : List ℕ
line_feeds = replicate (longest_key + 1) 10

-- the bytes that a reader has left behind which come line feeds
abbrev pub padded_of : {R : Type 0} → (R → Option (List ℕ)) → Padded (Patient R) → Option (List ℕ)
padded_of remaining reader = append_known (remaining reader.inner.inner) (replicate reader.left 10)

-- the records of a text, without a byte order mark at its start
abbrev pub records_of : List ℕ → List (List (List ℕ))
records_of bytes = records default_config (strip_bom (bytes ++ line_feeds))

-- a reader that takes each record as it stands, the first as any other
abbrev pub IsPlain : {R : Type 0} → Reader R → Type 0
IsPlain rows = (reader_trim rows ≡ trim.None) × Ready rows × (reader_config rows ≡ default_config)

-- the records that a reader has left, where its bytes are known
abbrev pub rows_left : {R : Type 0} → (R → Option (List ℕ)) → Reader R → Option (List (List (List ℕ)))
rows_left remaining rows = option_map (λ bytes. records_from default_config (length bytes + 1) (reader_state rows) bytes) (source_of remaining rows)

-- of the records before, where they are known, one with these fields was read and the others are left, or there was none
abbrev pub ReadsRow : Option (List (List (List ℕ))) → Bool → List (List ℕ) → Option (List (List (List ℕ))) → Type 0
ReadsRow None found fields left = ⊤
ReadsRow (Some before) true fields None = ⊥
ReadsRow (Some before) true fields (Some left) = before ≡ fields ∷ left
ReadsRow (Some before) false fields left = before ≡ []

-- the number of the first record that has a key: a header is record 1, and there is one where a column has a name
abbrev pub first_record : Bool → AskedColumns → ℕ
first_record header asked = if header || has_name asked then 2 else 1

-- the fields of the first record: none where there is no record
abbrev pub header_of : List (List (List ℕ)) → List (List ℕ)
header_of [] = []
header_of (row ∷ rows) = row

-- what each record from that number on says
abbrev pub entries_from : ℕ → Columns → List (List (List ℕ)) → List Said
entries_from first columns rows = map (entry_of_record columns) (drop (first - 1) rows)

-- the same where the header may lack a column: then nothing is read
abbrev pub entries_by : ℕ → Result Columns Field → List (List (List ℕ)) → List Said
entries_by first (Ok columns) rows = entries_from first columns rows
entries_by first (Err lacking) rows = []

-- the log of records, the first of which has the columns that are asked for: of these, where they are known
abbrev pub IsLogOfRows : Bool → ℕ → AskedColumns → Option (List (List (List ℕ))) → Log → Type 0
IsLogOfRows strict first asked known log = (rows : List (List (List ℕ))) × (columns : Columns) × (columns_in (header_of rows) asked ≡ Ok columns)
    × IsLogOf strict first (entries_from first columns rows) log × IfSome known (λ left. left ≡ rows)

-- the columns that are asked for of a text, by its first record
abbrev pub columns_of : AskedColumns → List ℕ → Result Columns Field
columns_of asked bytes = columns_in (header_of (records_of bytes)) asked

-- what each record of a text says
abbrev pub entries_of_records : AskedColumns → Bool → List ℕ → List Said
entries_of_records asked header bytes = entries_by (first_record header asked) (columns_of asked bytes) (records_of bytes)

-- why no log is read whose header lacks a column: that, or the reader failed before that was known, or memory
abbrev pub RefusesHeader : Field → LogFault → Type 0
RefusesHeader lacking (fault.Read number cause) = number ≡ 1
RefusesHeader lacking fault.TooManyLines = ⊥
RefusesHeader lacking fault.Memory = ⊤
RefusesHeader lacking (fault.Unreadable found) = ⊥
RefusesHeader lacking fault.TooManyKeys = ⊥
RefusesHeader lacking (fault.NoColumn field) = field ≡ lacking

-- why no log of records is read
abbrev pub RefusesBy : Bool → ℕ → Result Columns Field → List (List (List ℕ)) → LogFault → Type 0
RefusesBy strict first (Ok columns) rows why = RefusesLog strict first (entries_from first columns rows) why
RefusesBy strict first (Err lacking) rows why = RefusesHeader lacking why

-- the same of a text
abbrev pub RefusesRecords : Bool → AskedColumns → Bool → List ℕ → LogFault → Type 0
RefusesRecords strict asked header bytes why = RefusesBy strict (first_record header asked) (columns_of asked bytes) (records_of bytes) why
