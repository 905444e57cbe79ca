use Rattle.std.proofs.Common.{refl}
use Rattle.store_trace.proofs.gates.OpenGateGate.enter.Goals as goal

pub returns : goal.returns
returns c = refl
