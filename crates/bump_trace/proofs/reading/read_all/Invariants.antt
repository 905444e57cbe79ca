use Rattle.std.proofs.Common.{◌≡◌, ◌≤◌, length}
use Rattle.std.specs.Io.KnownBytes.{Consumes}
use Rattle.bump_trace.specs.Runs.{most_bytes}
use Rattle.bump_trace.proofs.reading.read_all.Given as goal

abbrev pub invariant-loop : goal.invariant-loop
invariant-loop g l = record {
  taken : Consumes (g.R.Source.remaining l.initial.reader.inner) (g.R.Source.remaining l.reader.inner) l.bytes.items;
  size : length l.bytes.items ≤ most_bytes;
  calls : l.reader.calls ≡ l.counter;
  failed : l.reader.failed ≡ 0;
}
