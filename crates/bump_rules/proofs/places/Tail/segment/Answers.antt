use Rattle.std.proofs.Common.{sym, ap}
use Rattle.bump_rules.specs.Tables.{segment_of}
use Rattle.bump_rules.proofs.places.Tail.segment.Goals as goal

pub returns-in-Hot : goal.returns-in-Hot
returns-in-Hot c = sym (ap segment_of c.in-Hot.is)
