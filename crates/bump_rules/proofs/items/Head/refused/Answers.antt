use Rattle.std.proofs.Common.{sym, ◌∙◌, ne_eqb, arith}
use Rattle.std.proofs.lemmas.Bool.{cond-false, le-ltb}
use Rattle.bump_rules.proofs.items.Head.refused.Goals as goal

pub returns : goal.returns
returns c = sym (cond-false _ _ _ (ne_eqb c.args.failed 8 (omega arith))
    ∙ cond-false _ _ _ (le-ltb c.args.self.refs c.args.limit (omega arith)))
