use Rattle.bumpsim.specs.Ways.{HaveBegun}
use Rattle.bumpsim.proofs.ways.PassingGate.begin.Goals as goal

pub returns : goal.returns
unfolding HaveBegun
returns c = tt
