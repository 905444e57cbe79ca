use Rattle.std.proofs.Common.{◌≡◌}
use Rattle.index_tests.proofs.tests.differences.Given as goal

abbrev pub invariant-loop-one : goal.invariant-loop-one
invariant-loop-one l = l.eye.table ≡ l.reader.table
