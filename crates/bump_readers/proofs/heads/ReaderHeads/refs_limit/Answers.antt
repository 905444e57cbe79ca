use Rattle.std.proofs.Common.{ap, ◌∙◌}
use Rattle.bump_rules.specs.declared.configs.Config.{Config}
use Rattle.bump_readers.proofs.heads.ReaderHeads.refs_limit.Goals as goal

pub returns : goal.returns
returns g c = c.refs.ensures ∙ c.self.invariant.2 ∙ ap (λ (k : Config). k.refs_limit) c.self.view_is
