use Rattle.cache_index.specs.Views.{IsWithin, lanes_ahead}
use Rattle.index_tests.proofs.tests.exact_times.Given as goal

abbrev pub invariant-loop-life : goal.invariant-loop-life
invariant-loop-life l = IsWithin l.index l.search

abbrev pub decreases-loop-life : goal.decreases-loop-life
decreases-loop-life l = lanes_ahead l.index l.search
