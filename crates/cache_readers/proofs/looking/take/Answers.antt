use Rattle.std.proofs.Common.{refl}
use Rattle.cache_readers.proofs.looking.take.Goals as goal

pub returns-in_default-clause-absent : goal.returns-in_default-clause-absent
returns-in_default-clause-absent g c = absurd (c.in-Ok.ensures.held refl c.in_default.is)
