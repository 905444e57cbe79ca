use Rattle.std.proofs.Common.{sym, ne_eqb, arith}
use Rattle.std.proofs.lemmas.Bool.{cond-false}
use Rattle.bump_rules.proofs.items.Head.ended.Goals as goal

pub returns : goal.returns
returns c = sym (cond-false _ _ _ (ne_eqb c.args.self.refs 0 (omega arith)))
