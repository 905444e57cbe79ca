use Rattle.bump_word.proofs.Steps.{one_less}
use Rattle.bump_word.proofs.laws.one_less.Goals as goal

pub returns : goal.returns
returns c = one_less
