use Rattle.std.proofs.Common.{◌≡◌, ◌++◌}
use Rattle.bump_core.specs.Readers.{class_list}
use Rattle.world_tests.proofs.tests.readers.chunks_met.Given as goal

-- the chunks met so far, and those to come
abbrev pub invariant-loop-chunk : goal.invariant-loop-chunk
invariant-loop-chunk l = l.met.items ++ l.chunk-iterator ≡ class_list l.world l.class l.fn.place
