use Rattle.std.proofs.Common.{sym, ap}
use Rattle.bump_rules.specs.Places.{first_segment}
use Rattle.bump_rules.proofs.places.Start.segment.Goals as goal

pub returns-in-Temp : goal.returns-in-Temp
returns-in-Temp c = sym (ap first_segment c.in-Temp.is)
