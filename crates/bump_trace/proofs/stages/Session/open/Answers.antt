use Rattle.std.proofs.Common.{ap}
use Rattle.bump_trace.specs.Stages.{opened}
use Rattle.bump_trace.specs.Views.{seen_stage, store_of}
use Rattle.bump_trace.proofs.stages.Session.open.Goals as goal

pub returns-in-Open-clause-opened : goal.returns-in-Open-clause-opened
unfolding opened
returns-in-Open-clause-opened c = (store_of c.in-Open.field-0, ap (λ p. opened (seen_stage p)) c.in-Open.is, ap seen_stage c.in-Open.is)
