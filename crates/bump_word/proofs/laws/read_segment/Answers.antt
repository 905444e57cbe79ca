use Rattle.bump_word.proofs.Steps.{read_segment_masked, read_segment_shifted}
use Rattle.bump_word.proofs.laws.read_segment.Goals as goal

pub returns-clause-masked : goal.returns-clause-masked
returns-clause-masked c = read_segment_masked

pub returns-clause-shifted : goal.returns-clause-shifted
returns-clause-shifted c = read_segment_shifted
