use Rattle.access_logs.proofs.KnownBytes.{Consumes-behind}
use Rattle.access_logs.proofs.patient.PatientRead.read.Goals as goal

pub returns-in-Ok-clause-bytes : goal.returns-in-Ok-clause-bytes
returns-in-Ok-clause-bytes g c = (Consumes-behind _ _ _ _ c.loop.invariant c.in-Ok.ensures.bytes.0, c.in-Ok.ensures.bytes.1)
