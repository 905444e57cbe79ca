use Rattle.std.proofs.Common.{rules}
use Rattle.bump_unlocked.proofs.holds.Hold.word.Goals as goal

pub returns-clause-is : goal.returns-clause-is
returns-clause-is g c = search rules

pub returns-clause-same : goal.returns-clause-same
returns-clause-same g c = search rules
