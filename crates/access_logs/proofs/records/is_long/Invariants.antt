-- The room is what the fields before left.
use Rattle.std.proofs.Common.{◌≡◌, ◌+◌, take}
use Rattle.csv.specs.Records.{fields_of}
use Rattle.access_logs.specs.Records.{bytes_in}
use Rattle.access_logs.proofs.records.is_long.Given as goal

abbrev pub invariant-loop-place : goal.invariant-loop-place
invariant-loop-place l = l.room + bytes_in (take l.place (fields_of l.fn.row)) ≡ 65536
