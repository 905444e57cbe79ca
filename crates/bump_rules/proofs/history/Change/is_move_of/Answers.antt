use Rattle.std.proofs.Common.{rules}
use Rattle.bump_rules.proofs.history.Change.is_move_of.Goals as goal

pub returns-in-Moved-default-default-default-Bump : goal.returns-in-Moved-default-default-default-Bump
returns-in-Moved-default-default-default-Bump c = search rules
