use Rattle.std.proofs.Common.{ap, ◌∙◌}
use Rattle.model_state.specs.State.{State}
use Rattle.bump_core.specs.Readers.{accounts_of}
use Rattle.bump_core.proofs.worlds.World.accounts.Goals as goal

pub returns : goal.returns
returns c = c.accounts.ensures ∙ ap (λ (s : State). accounts_of s c.args.worker) c.self.view_is
