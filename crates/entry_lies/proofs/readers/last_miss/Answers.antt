use Rattle.std.proofs.Common.{rules}
use Rattle.entry_lies.proofs.readers.last_miss.Goals as goal

pub returns : goal.returns
returns g c = search rules
