use Rattle.std.proofs.Common.{length, ap, ◌∙◌, subst, arith}
use Rattle.bump_rules.specs.declared.bumps.Accounts.{Accounts}
use Rattle.bump_unlocked.specs.Closing.{ClosedState, AppliedAll}
use Rattle.bump_unlocked.proofs.ClosingLemmas.{left_over, sent_in_parts, all_at_none_left}
use Rattle.bump_unlocked.proofs.closing.ClosedWorker.rest.Goals as goal

pub overflow_sub-result : goal.overflow_sub-result
overflow_sub-result g c = left_over c.args.lane.now c.rest.new.self c.self.inside.sender.sent _ _ c.promise.ensures c.rest.ensures.left.lane c.in_ok-_known.ensures.left.rest
    (ap (λ (x : Accounts). x.accepted) c.self.invariant.0 ∙ c.self.invariant.1.accepted) c.applied.ensures

pub returns-clause-number : goal.returns-clause-number
returns-clause-number g c =
    let sum = ap (λ (x : Accounts). x.accepted) c.self.invariant.0 ∙ c.self.invariant.1.accepted in
    let few = left_over c.args.lane.now c.rest.new.self c.self.inside.sender.sent _ _ c.promise.ensures c.rest.ensures.left.lane c.in_ok-_known.ensures.left.rest sum c.applied.ensures in
    omega (arith, few, sum, c.applied.ensures, ap (λ (w : ClosedState). length w.sender.sent) c.self.view_is)

pub returns-clause-all : goal.returns-clause-all
returns-clause-all g c = λ none.
    let sum = ap (λ (x : Accounts). x.accepted) c.self.invariant.0 ∙ c.self.invariant.1.accepted in
    let few = left_over c.args.lane.now c.rest.new.self c.self.inside.sender.sent _ _ c.promise.ensures c.rest.ensures.left.lane c.in_ok-_known.ensures.left.rest sum c.applied.ensures in
    subst (λ (w : ClosedState). AppliedAll w.sender.sent c.rest.new.self) c.self.view_is
    (all_at_none_left c.args.lane.now c.rest.new.self c.self.inside.sender.sent _ c.promise.ensures c.rest.ensures.left.lane c.in_ok-_known.ensures.left.rest (omega (arith, few, sum, c.applied.ensures)) none)

pub returns-clause-few : goal.returns-clause-few
returns-clause-few g c =
    let sum = ap (λ (x : Accounts). x.accepted) c.self.invariant.0 ∙ c.self.invariant.1.accepted in
    let sheets = sent_in_parts c.args.lane.now c.rest.new.self c.self.inside.sender.sent c.promise.ensures c.rest.ensures.left.lane c.in_ok-_known.ensures.left.rest in
    omega (
      arith,
      sum,
      sheets,
      c.applied.ensures,
      c.in_ok-_known.ensures.left.number,
      c.in_ok-_known.ensures.left.few,
      ap (λ (w : ClosedState). w.sender.capacity) c.self.view_is,
    )
