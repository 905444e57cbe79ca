-- Columns of CSV, by their numbers or by their names in a header.
use Rattle.std.specs.Prelude.{ℕ, ◌||◌, Bool, true, false, List, Option, Some, None, option_map, bytes_eq, Result, Ok, Err}
use Rattle.std.specs.List.{position_from}
use Rattle.access_logs.specs.declared.columns.AskedColumns.{AskedColumns}
use Rattle.access_logs.specs.declared.columns.Columns.{Columns}
use Rattle.access_logs.specs.declared.log.Column.{Column}
use Rattle.access_logs.specs.declared.log.Column.TheVariants as column
use Rattle.access_logs.specs.declared.log.Field.{Field}
use Rattle.access_logs.specs.declared.log.Field.TheVariants as field

-- the column has a name
abbrev pub is_name : Column → Bool
is_name (column.Number number) = false
is_name (column.Name name) = true

-- a column is asked for, and has a name
abbrev pub may_be_name : Option Column → Bool
may_be_name None = false
may_be_name (Some column) = is_name column

-- one of the columns has a name
abbrev pub has_name : AskedColumns → Bool
has_name asked = (((is_name asked.key || may_be_name asked.size) || may_be_name asked.time) || may_be_name asked.operation) || may_be_name asked.ttl

-- the place of a name in a header, counted from 0: that of the first field that is the name, byte for byte
abbrev pub place_of : List ℕ → List (List ℕ) → Option ℕ
place_of name header = position_from (bytes_eq name) 0 header

-- the number of a column, where the header has it
abbrev pub column_in : List (List ℕ) → Column → Option ℕ
column_in header (column.Number number) = Some number
column_in header (column.Name name) = place_of name.now header

-- the number of a column where it is asked for: nothing only where the header lacks it
abbrev pub asked_in : List (List ℕ) → Option Column → Option (Option ℕ)
asked_in header None = Some None
asked_in header (Some column) = option_map (λ number. Some number) (column_in header column)

-- the columns of this key, size, time and operation, if the ttl is there where it is asked for
abbrev pub columns_with_ttl : ℕ → Option ℕ → Option ℕ → Option ℕ → Option (Option ℕ) → Result Columns Field
columns_with_ttl key size time operation None = Err field.Ttl
columns_with_ttl key size time operation (Some ttl) = Ok (record { key = key; size = size; time = time; operation = operation; ttl = ttl })

-- the columns of this key, size and time, if the operation is there where it is asked for
abbrev pub columns_with_operation : ℕ → Option ℕ → Option ℕ → Option (Option ℕ) → Option (Option ℕ) → Result Columns Field
columns_with_operation key size time None ttl = Err field.Operation
columns_with_operation key size time (Some operation) ttl = columns_with_ttl key size time operation ttl

-- the columns of this key and size, if the time is there where it is asked for
abbrev pub columns_with_time : ℕ → Option ℕ → Option (Option ℕ) → Option (Option ℕ) → Option (Option ℕ) → Result Columns Field
columns_with_time key size None operation ttl = Err field.Time
columns_with_time key size (Some time) operation ttl = columns_with_operation key size time operation ttl

-- the columns of this key, if the size is there where it is asked for
abbrev pub columns_with_size : ℕ → Option (Option ℕ) → Option (Option ℕ) → Option (Option ℕ) → Option (Option ℕ) → Result Columns Field
columns_with_size key None time operation ttl = Err field.Size
columns_with_size key (Some size) time operation ttl = columns_with_time key size time operation ttl

-- the columns, if the key is there
abbrev pub columns_with_key : Option ℕ → Option (Option ℕ) → Option (Option ℕ) → Option (Option ℕ) → Option (Option ℕ) → Result Columns Field
columns_with_key None size time operation ttl = Err field.Key
columns_with_key (Some key) size time operation ttl = columns_with_size key size time operation ttl

-- the numbers of the columns that are asked for, or the first of key, size, time, operation and ttl that the header lacks
abbrev pub columns_in : List (List ℕ) → AskedColumns → Result Columns Field
columns_in header asked =
    columns_with_key (column_in header asked.key) (asked_in header asked.size) (asked_in header asked.time)
    (asked_in header asked.operation) (asked_in header asked.ttl)
