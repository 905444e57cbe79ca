use Rattle.std.proofs.Common.{◌≡◌}
use Rattle.index_tests.proofs.tests.run.Given as goal

abbrev pub invariant-loop-turn : goal.invariant-loop-turn
invariant-loop-turn l = l.eye.table ≡ l.initial.eye.table
