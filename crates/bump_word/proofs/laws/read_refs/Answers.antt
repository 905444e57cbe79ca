use Rattle.bump_word.proofs.Steps.{read_refs}
use Rattle.bump_word.proofs.laws.read_refs.Goals as goal

pub returns : goal.returns
returns c = read_refs
