use Rattle.std.proofs.Common.{sym, ap}
use Rattle.bump_rules.specs.Tables.{pulled_to}
use Rattle.bump_rules.proofs.commands.Pulled.to.Goals as goal

pub returns-in-Cold : goal.returns-in-Cold
returns-in-Cold c = sym (ap pulled_to c.in-Cold.is)
