use Rattle.std.proofs.Common.{sym, ◌∙◌}
use Rattle.model_state.specs.Views.{state_of}
use Rattle.model_state.proofs.workers.Counts.{none_applies}
use Rattle.model_state.proofs.world_state.WorldState.is_under_application.Goals as goal

pub returns-then-applying-eq0 : goal.returns-then-applying-eq0
returns-then-applying-eq0 c = sym (none_applies (state_of c.args.self.now) c.args.class c.args.self.now.workers
    (sym c.applying.ensures ∙ c.if-applying-eq0.true))
