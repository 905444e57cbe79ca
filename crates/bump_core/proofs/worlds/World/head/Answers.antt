use Rattle.std.proofs.Common.{ap, ◌∙◌}
use Rattle.model_state.specs.State.{State, head_at}
use Rattle.bump_core.proofs.worlds.World.head.Goals as goal

pub returns : goal.returns
returns c = c.head.ensures ∙ ap (λ (s : State). head_at s c.args.chunk) c.self.view_is
