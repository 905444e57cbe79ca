use Rattle.std.proofs.Common.{[], refl}
use Rattle.bump_trace.specs.Gathering.{stopped_line}
use Rattle.bump_trace.proofs.KnownBytes.{appends_start}
use Rattle.bump_trace.proofs.gathering.stop.Goals as goal

pub returns-in-Memory-clause-front : goal.returns-in-Memory-clause-front
returns-in-Memory-clause-front g c =
    record { sent = []; more = stopped_line c.args.number c.args.error; wrote = appends_start _; front = refl }
