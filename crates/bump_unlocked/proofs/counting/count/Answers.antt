use Rattle.std.proofs.Common.{rules}
use Rattle.bump_unlocked.proofs.counting.count.Goals as goal

pub returns-in-Dropped-Full : goal.returns-in-Dropped-Full
returns-in-Dropped-Full c = search rules

pub returns-in-Dropped-RefsFull : goal.returns-in-Dropped-RefsFull
returns-in-Dropped-RefsFull c = search rules
