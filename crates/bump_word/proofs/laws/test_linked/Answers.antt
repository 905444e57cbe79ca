use Rattle.bump_word.proofs.Steps.{test_linked}
use Rattle.bump_word.proofs.laws.test_linked.Goals as goal

pub returns : goal.returns
returns c = test_linked
