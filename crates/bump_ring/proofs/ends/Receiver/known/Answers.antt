use Rattle.std.proofs.Common.{rules}
use Rattle.bump_ring.proofs.ends.Receiver.known.Goals as goal

pub returns-then-self : goal.returns-then-self
returns-then-self g c = search rules
