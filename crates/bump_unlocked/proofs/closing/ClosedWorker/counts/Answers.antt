use Rattle.std.proofs.Common.{sym, ap, ◌∙◌, length, subst, ℕ}
use Rattle.bump_rules.specs.declared.bumps.Accounts.{Accounts}
use Rattle.bump_rules.specs.declared.hands.Hand.{Hand}
use Rattle.bump_rules.specs.declared.hands.Hand.TheVariants.{Idle}
use Rattle.bump_rules.specs.Rings.{IsAccounts}
use Rattle.bump_unlocked.specs.Closing.{ClosedState}
use Rattle.bump_unlocked.proofs.closing.ClosedWorker.counts.Goals as goal

pub returns-clause-counts : goal.returns-clause-counts
returns-clause-counts g c = c.self.invariant.0 ∙ ap (λ (w : ClosedState). w.sheet.accounts) c.self.view_is

pub returns-clause-add_up : goal.returns-clause-add_up
returns-clause-add_up g c =
    let i = c.self.invariant in
    let a = c.self.inside.seat.sheet.accounts in
    let sent = length c.self.inside.sender.sent in
    subst (λ (w : ClosedState). IsAccounts c.self.inside.counts (length w.sender.sent) Idle) c.self.view_is
    (subst (λ (k : Accounts). IsAccounts k sent Idle) (sym i.0)
    (subst (λ (h : Hand). IsAccounts a sent h) i.1.idle
    (subst (λ (n : ℕ). IsAccounts a n c.self.inside.seat.sheet.hand) i.1.accepted c.promise.ensures.accounts)))
