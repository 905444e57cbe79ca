use Rattle.std.proofs.Common.{sym, eq-eqb, arith}
use Rattle.std.proofs.lemmas.Bool.{cond-true}
use Rattle.bump_rules.proofs.history.Change.freed.Goals as goal

pub returns-then-life-eq4294967295 : goal.returns-then-life-eq4294967295
returns-then-life-eq4294967295 c = sym (cond-true _ _ _ (eq-eqb c.args.life.generation 4294967295 (omega arith)))
