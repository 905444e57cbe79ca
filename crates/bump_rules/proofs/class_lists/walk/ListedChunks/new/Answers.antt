-- All of the list is still to come.
use Rattle.bump_rules.specs.Lists.{list_at}
use Rattle.bump_rules.proofs.class_lists.Walks.{starts}
use Rattle.bump_rules.proofs.class_lists.walk.ListedChunks.new.Goals as goal

pub invariant_of-result : goal.invariant_of-result
invariant_of-result c = (starts
    (list_at c.args.lists.now c.args.place) c.len.result c.front.result c.len.ensures c.front.ensures).0

pub returns : goal.returns
returns c = (starts (list_at c.args.lists.now c.args.place) c.len.result c.front.result c.len.ensures c.front.ensures).1
