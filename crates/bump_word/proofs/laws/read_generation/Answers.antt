use Rattle.bump_word.proofs.Steps.{read_generation}
use Rattle.bump_word.proofs.laws.read_generation.Goals as goal

pub returns : goal.returns
returns c = read_generation
