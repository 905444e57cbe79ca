use Rattle.std.proofs.Common.{arith}
use Rattle.bump_store.proofs.SettlingLemmas.{as_many}
use Rattle.bump_store.proofs.lanes.Lane.settled.Goals as goal

pub returns-clause-counts : goal.returns-clause-counts
returns-clause-counts g c = c.counts.ensures.counts

pub returns-clause-accepted : goal.returns-clause-accepted
returns-clause-accepted g c = omega (
  arith,
  c.applied.ensures.count,
  c.counts.ensures.add_up.accepted,
  as_many c.args.self.now.lane c.args.closed.now.sender.sent c.requires.all,
)
