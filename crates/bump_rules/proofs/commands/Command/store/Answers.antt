use Rattle.std.proofs.Common.{sym, ap}
use Rattle.bump_rules.specs.declared.places.Start.{Start}
use Rattle.bump_rules.specs.Starts.{link_command}
use Rattle.bump_rules.proofs.commands.Command.store.Goals as goal

pub returns-in-Temp : goal.returns-in-Temp
returns-in-Temp c = sym (ap (λ (s : Start). link_command s c.args.class c.args.label c.args.now) c.in-Temp.is)
