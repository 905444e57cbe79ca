use Rattle.std.proofs.Common.{refl}
use Rattle.trace_lines.proofs.counted.Counted.new.Goals as goal

pub returns-clause-calls : goal.returns-clause-calls
returns-clause-calls g c = refl
