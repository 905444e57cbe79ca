use Rattle.std.proofs.Common.{rules}
use Rattle.bump_heads.proofs.seats.LaneSeat.worker.Goals as goal

pub returns : goal.returns
returns g c = search rules
