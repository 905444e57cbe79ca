use Rattle.bump_word.proofs.Steps.{clear_active}
use Rattle.bump_word.proofs.laws.clear_active.Goals as goal

pub returns : goal.returns
returns c = clear_active
