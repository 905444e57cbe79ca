use Rattle.bump_word.proofs.Steps.{test_fetched}
use Rattle.bump_word.proofs.laws.test_fetched.Goals as goal

pub returns : goal.returns
returns c = test_fetched
