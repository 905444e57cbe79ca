use Rattle.std.proofs.Common.{length, sym, ap, ◌∙◌, arith}
use Rattle.std.proofs.lemmas.Bool.{cond-true, cond-false, lt-ltb}
use Rattle.bump_rules.specs.declared.places.Tail.{Tail}
use Rattle.bump_rules.specs.Tables.{pulled_of}
use Rattle.bump_rules.proofs.places.Tail.pulled.Goals as goal

pub returns-in-Warm-2 : goal.returns-in-Warm-2
returns-in-Warm-2 c =
    let a = c.args in
    sym (ap (λ (t : Tail). pulled_of t a.found a.lists.now a.limits a.ended a.id) c.in-Warm.is
    ∙ (cond-false _ _ _ c.if-found-2.false
    ∙ cond-true _ _ _ (lt-ltb a.limits.warm (length a.lists.now.warm) (omega arith))))
