use Rattle.bump_word.proofs.Steps.{set_active}
use Rattle.bump_word.proofs.laws.set_active.Goals as goal

pub returns : goal.returns
returns c = set_active
