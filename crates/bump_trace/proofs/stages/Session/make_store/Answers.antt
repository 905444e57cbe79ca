use Rattle.std.proofs.Common.{ap}
use Rattle.bump_trace.specs.Stages.{opened}
use Rattle.bump_trace.specs.Views.{seen_stage, store_of}
use Rattle.bump_trace.proofs.stages.Session.make_store.Goals as goal

pub returns-in_default-clause-opened : goal.returns-in_default-clause-opened
unfolding opened
returns-in_default-clause-opened c = (store_of c.in_default.field-0, ap (λ p. opened (seen_stage p)) c.in_default.is, ap seen_stage c.in_default.is)
