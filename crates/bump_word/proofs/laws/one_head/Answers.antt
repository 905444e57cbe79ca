use Rattle.bump_word.proofs.Words.{one_head}
use Rattle.bump_word.proofs.laws.one_head.Goals as goal

pub returns-clause-one : goal.returns-clause-one
returns-clause-one c = one_head
