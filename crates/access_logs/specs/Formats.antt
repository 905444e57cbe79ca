-- What is in a log of a format.
use Rattle.std.specs.Prelude.{ℕ, Bool, false, List, Option, None, is_some}
use Rattle.std.specs.Result.{result_err}
use Rattle.access_logs.specs.Entries.{Said, RefusesLog}
use Rattle.access_logs.specs.Lines.{entries_of_lines}
use Rattle.access_logs.specs.Records.{entries_of_records, columns_of, first_record, RefusesRecords}
use Rattle.access_logs.specs.declared.columns.AskedColumns.{AskedColumns}
use Rattle.access_logs.specs.declared.log.Column.{Column}
use Rattle.access_logs.specs.declared.log.Field.{Field}
use Rattle.access_logs.specs.declared.log.Format.{Format}
use Rattle.access_logs.specs.declared.log.Format.TheVariants as format
use Rattle.access_logs.specs.declared.log.LogFault.{LogFault}

-- the columns that a format of CSV asks for
abbrev pub asked_of : Column → Option Column → Option Column → Option Column → Option Column → AskedColumns
asked_of key size time operation ttl = record { key = key; size = size; time = time; operation = operation; ttl = ttl }

-- what each line or record of a text says: columns with a name are those of its place in the first record
abbrev pub entries_of : Format → List ℕ → List Said
entries_of format.Lines bytes = entries_of_lines bytes
entries_of (format.Csv key header size time operation ttl) bytes = entries_of_records (asked_of key size time operation ttl) header bytes

-- the first of key, size, time, operation and ttl whose column has a name that isn't in the first record
abbrev pub lacking : Format → List ℕ → Option Field
lacking format.Lines bytes = None
lacking (format.Csv key header size time operation ttl) bytes = result_err (columns_of (asked_of key size time operation ttl) bytes)

-- the number of the first line or record that has a key
abbrev pub first_number : Format → ℕ
first_number format.Lines = 1
first_number (format.Csv key header size time operation ttl) = first_record header (asked_of key size time operation ttl)

-- the format has a column of sizes
abbrev pub has_sizes : Format → Bool
has_sizes format.Lines = false
has_sizes (format.Csv key header size time operation ttl) = is_some size

-- the format has a column of times
abbrev pub has_times : Format → Bool
has_times format.Lines = false
has_times (format.Csv key header size time operation ttl) = is_some time

-- the format has a column of operations
abbrev pub has_operations : Format → Bool
has_operations format.Lines = false
has_operations (format.Csv key header size time operation ttl) = is_some operation

-- the format has a column of how long what is put lasts
abbrev pub has_ttls : Format → Bool
has_ttls format.Lines = false
has_ttls (format.Csv key header size time operation ttl) = is_some ttl

-- why no log of a text is read
abbrev pub Refuses : Bool → Format → List ℕ → LogFault → Type 0
Refuses strict format.Lines bytes why = RefusesLog strict 1 (entries_of_lines bytes) why
Refuses strict (format.Csv key header size time operation ttl) bytes why = RefusesRecords strict (asked_of key size time operation ttl) header bytes why
