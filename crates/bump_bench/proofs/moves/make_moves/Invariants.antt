-- The counts of nodes and lists stay.
use Rattle.std.proofs.Common.{◌≡◌, length}
use Rattle.bump_bench.proofs.moves.make_moves.Given as goal

abbrev pub invariant-loop-step : goal.invariant-loop-step
invariant-loop-step l = (l.links.nodes ≡ l.fn.links.nodes) × (length l.links.lists ≡ 8)
