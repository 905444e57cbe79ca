-- One node more.
use Rattle.bump_links.specs.Ascending.{ascending_node}
use Rattle.bump_links.proofs.RangeLemmas.{pushed_more}
use Rattle.bump_links.proofs.ascending.ascending_nodes.Goals as goal

pub loop-node-preserved : goal.loop-node-preserved
loop-node-preserved c =
    pushed_more (ascending_node c.args.count c.args.list) c.loop-node.node c.loop-node.made.items c.push.new.self.items
    c.node_between.result c.in_ok-push.ensures.items c.loop-node.invariant c.node_between.ensures
