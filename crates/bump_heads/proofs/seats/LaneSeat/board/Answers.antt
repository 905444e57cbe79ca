use Rattle.std.proofs.Common.{rules}
use Rattle.bump_heads.proofs.seats.LaneSeat.board.Goals as goal

pub invariant_of-self : goal.invariant_of-self
invariant_of-self g c = search rules
