use Rattle.std.proofs.Common.{rules}
use Rattle.bump_rules.proofs.items.Head.hit.Goals as goal

pub returns-in-Cold : goal.returns-in-Cold
returns-in-Cold c = search rules
