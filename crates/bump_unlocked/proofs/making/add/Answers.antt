use Rattle.std.proofs.Common.{rules}
use Rattle.bump_unlocked.proofs.making.add.Goals as goal

pub returns : goal.returns
returns g c = search rules
