use Rattle.std.proofs.Common.{◌∙◌}
use Rattle.call_log.proofs.Calling.{one_length}
use Rattle.call_log.proofs.logs.Log.calls.Goals as goal

pub returns-clause-alone : goal.returns-clause-alone
returns-clause-alone g c = rw (← c.self.view_is) (λ one. c.calls.ensures ∙ (c.self.invariant.1
    ∙ one_length g.E.State.number c.self.inside.head c.self.inside.front c.self.invariant.0 c.self.invariant.2 one))
