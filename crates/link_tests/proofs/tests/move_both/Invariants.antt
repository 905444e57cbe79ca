-- There stay five nodes and eight lists.
use Rattle.std.proofs.Common.{◌≡◌, length}
use Rattle.link_tests.proofs.tests.move_both.Given as goal

abbrev pub invariant-loop-move : goal.invariant-loop-move
invariant-loop-move g l = (l.links.nodes ≡ 5) × (length l.links.lists ≡ 8)
