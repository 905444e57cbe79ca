use Rattle.std.proofs.Common.{rules}
use Rattle.bump_ring.proofs.ends.Sender.meet.Goals as goal

pub returns-clause-first : goal.returns-clause-first
returns-clause-first g c = search rules
