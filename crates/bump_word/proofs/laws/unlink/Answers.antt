use Rattle.bump_word.proofs.Steps.{unlink}
use Rattle.bump_word.proofs.laws.unlink.Goals as goal

pub returns : goal.returns
returns c = unlink
