use Rattle.std.proofs.Common.{sym, ap}
use Rattle.bump_rules.specs.declared.places.Start.{Start}
use Rattle.bump_rules.specs.Starts.{begun_change}
use Rattle.bump_rules.proofs.history.Change.begun.Goals as goal

pub returns-in-Temp : goal.returns-in-Temp
returns-in-Temp c = sym (ap (λ (s : Start). begun_change s c.args.life) c.in-Temp.is)
