use Rattle.std.proofs.Common.{sym, ap, ◌∙◌, length, subst, ℕ}
use Rattle.bump_rules.specs.declared.bumps.Accounts.{Accounts}
use Rattle.bump_rules.specs.declared.hands.Hand.{Hand}
use Rattle.bump_rules.specs.declared.hands.Hand.TheVariants.{Idle}
use Rattle.bump_rules.specs.Rings.{IsAccounts}
use Rattle.bump_readers.specs.Attempts.{attempts_in}
use Rattle.bump_unlocked.specs.Workers.{WorkerState}
use Rattle.bump_unlocked.proofs.workers.Worker.counts.Goals as goal

pub returns-clause-counts : goal.returns-clause-counts
returns-clause-counts g c = c.self.invariant.1 ∙ ap (λ (w : WorkerState). w.sheet.accounts) c.self.view_is

pub returns-clause-add_up : goal.returns-clause-add_up
returns-clause-add_up g c =
    let i = c.self.invariant in
    let a = c.self.inside.seat.sheet.accounts in
    let sent = length c.self.inside.sender.sent in
    subst (λ (w : WorkerState). IsAccounts c.self.inside.counts (length w.sender.sent) Idle) c.self.view_is
    (subst (λ (k : Accounts). IsAccounts k sent Idle) (sym i.1)
    (subst (λ (h : Hand). IsAccounts a sent h) i.2.idle
    (subst (λ (n : ℕ). IsAccounts a n c.self.inside.seat.sheet.hand) i.2.accepted c.promise.ensures.accounts)))

pub returns-clause-attempts : goal.returns-clause-attempts
returns-clause-attempts g c =
    ap (λ (k : Accounts). k.attempted) c.self.invariant.1 ∙ c.promise.ensures.attempts
    ∙ ap (λ (w : WorkerState). attempts_in w.sheet.steps) c.self.view_is
