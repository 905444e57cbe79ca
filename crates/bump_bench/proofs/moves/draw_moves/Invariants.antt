-- The moves so far are of the nodes and of the lists.
use Rattle.std.proofs.Common.{◌<◌, All}
use Rattle.bump_bench.proofs.moves.draw_moves.Given as goal

abbrev pub invariant-loop-move : goal.invariant-loop-move
invariant-loop-move l = All (λ m. (m.node < l.nodes) × (m.list < 8)) l.moves.items
