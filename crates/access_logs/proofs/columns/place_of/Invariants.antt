-- The name's place among all fields is that among those that are left.
use Rattle.std.proofs.Common.{◌≡◌, drop}
use Rattle.std.specs.Prelude.{bytes_eq}
use Rattle.std.specs.List.{position_from}
use Rattle.csv.specs.Records.{fields_of}
use Rattle.access_logs.specs.Columns.{place_of}
use Rattle.access_logs.proofs.columns.place_of.Given as goal

abbrev pub invariant-loop-place : goal.invariant-loop-place
invariant-loop-place l = place_of l.fn.name (fields_of l.fn.header) ≡ position_from (bytes_eq l.fn.name) l.place (drop l.place (fields_of l.fn.header))
