use Rattle.std.proofs.Common.{◌≡◌, true, sym, ap, ◌∙◌}
use Rattle.std.proofs.lemmas.Bool.{and_from, cond-true, cond-false}
use Rattle.bump_rules.specs.Tables.{is_cold}
use Rattle.bump_rules.proofs.items.Head.outcome.Goals as goal
use Rattle.bump_rules.proofs.items.Head.outcome.Goals.{in-Cold, in_default}

pub returns-then-cleared : goal.returns-then-cleared
returns-then-cleared c =
    let cold : is_cold c.args.self.segment ≡ true =
    elim c.match-matches.branch [
      | in-Cold w ↦ ap is_cold w.in-Cold.is
      | in_default w ↦ absurd (let u : ⊥ = cc (w.matches-is, c.if-matches.true) in u)
    ] in
    sym (cond-false _ _ _ c.if-not-self.false ∙ cond-true _ _ _ (and_from _ _ cold c.if-cleared.true))
