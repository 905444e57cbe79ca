-- One header more.
use Rattle.bump_links.specs.Ascending.{only_first}
use Rattle.bump_links.proofs.RangeLemmas.{pushed_more}
use Rattle.bump_links.proofs.ascending.first_headers.Goals as goal

pub loop-list-preserved : goal.loop-list-preserved
loop-list-preserved c =
    pushed_more (only_first c.args.count c.args.first) c.loop-list.list c.loop-list.made.items c.push.new.self.items
    c.header_of.result c.in_ok-push.ensures.items c.loop-list.invariant c.header_of.ensures
