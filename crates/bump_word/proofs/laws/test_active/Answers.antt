use Rattle.bump_word.proofs.Steps.{test_active}
use Rattle.bump_word.proofs.laws.test_active.Goals as goal

pub returns : goal.returns
returns c = test_active
