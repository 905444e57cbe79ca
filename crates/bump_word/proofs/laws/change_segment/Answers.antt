use Rattle.bump_word.proofs.Steps.{change_segment}
use Rattle.bump_word.proofs.laws.change_segment.Goals as goal

pub returns : goal.returns
returns c = change_segment
