use Rattle.std.proofs.Common.{ap, ◌∙◌}
use Rattle.bump_rules.specs.declared.configs.Config.{Config}
use Rattle.bump_steps.specs.Rule.{chunks}
use Rattle.bump_readers.proofs.heads.ReaderHeads.chunks.Goals as goal

pub returns : goal.returns
returns g c = c.self.invariant.3 ∙ ap (λ (k : Config). chunks k) c.self.view_is
