use Rattle.std.proofs.Common.{sym, ◌∙◌}
use Rattle.model_state.proofs.workers.Counts.{none_on}
use Rattle.model_state.proofs.world_state.WorldState.workers_on.Goals as goal

pub returns-then-not_idle-eq0 : goal.returns-then-not_idle-eq0
returns-then-not_idle-eq0 c = sym (none_on c.args.life c.args.self.now.workers (sym c.not_idle.ensures
    ∙ c.if-not_idle-eq0.true))
