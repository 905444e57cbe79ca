-- So many nodes were made.
use Rattle.std.proofs.Common.{◌≡◌, map}
use Rattle.std.specs.List.{range_with_len}
use Rattle.bump_links.specs.Ascending.{ascending_node}
use Rattle.bump_links.proofs.ascending.ascending_nodes.Given as goal

abbrev pub invariant-loop-node : goal.invariant-loop-node
invariant-loop-node l = l.made.items ≡ map (ascending_node l.count l.list) (range_with_len 0 l.node)
