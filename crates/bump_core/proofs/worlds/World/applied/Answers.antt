use Rattle.std.proofs.Common.{ap, ◌∙◌}
use Rattle.model_state.specs.State.{State}
use Rattle.bump_core.specs.Readers.{applied_of}
use Rattle.bump_core.proofs.worlds.World.applied.Goals as goal

pub returns : goal.returns
returns c = c.applied_bumps.ensures ∙ ap (λ (s : State). applied_of s c.args.worker) c.self.view_is
