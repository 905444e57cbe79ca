use Rattle.std.proofs.Common.{ap, ◌∙◌}
use Rattle.model_state.specs.State.{State}
use Rattle.bump_core.specs.Readers.{sent_of}
use Rattle.bump_core.proofs.worlds.World.sent.Goals as goal

pub returns : goal.returns
returns c = c.sent_bumps.ensures ∙ ap (λ (s : State). sent_of s c.args.worker) c.self.view_is
