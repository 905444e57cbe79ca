use Rattle.std.proofs.Common.{◌≡◌}
use Rattle.cache_index.specs.Views.{ahead}
use Rattle.index_tests.proofs.tests.times.Given as goal

abbrev pub invariant-loop-life : goal.invariant-loop-life
invariant-loop-life l = (l.search.nests ≡ l.reader.nests) × (l.search.table ≡ l.reader.table)
    × (l.eye.table ≡ l.reader.table)

abbrev pub decreases-loop-life : goal.decreases-loop-life
decreases-loop-life l = ahead l.search
