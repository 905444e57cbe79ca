use Rattle.std.proofs.Common.{rules}
use Rattle.entry_lies.proofs.found.value.Goals as goal

pub returns : goal.returns
returns g c = search rules
