use Rattle.bump_word.proofs.Steps.{set_fetched}
use Rattle.bump_word.proofs.laws.set_fetched.Goals as goal

pub returns : goal.returns
returns c = set_fetched
