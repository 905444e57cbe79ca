use Rattle.std.proofs.Common.{ap, ◌∙◌}
use Rattle.model_state.specs.State.{State}
use Rattle.bump_core.specs.Readers.{received_of}
use Rattle.bump_core.proofs.worlds.World.received.Goals as goal

pub returns : goal.returns
returns c = c.received_bumps.ensures ∙ ap (λ (s : State). received_of s c.args.worker) c.self.view_is
