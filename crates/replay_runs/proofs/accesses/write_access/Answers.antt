use Rattle.std.proofs.Common.{◌≡◌, ◌%◌, max, subst, ℕ, rules}
use Rattle.replay_runs.specs.Writing.{AddsAccessAndTend}
use Rattle.replay_runs.proofs.WritingLemmas.{not_tended, tended}
use Rattle.replay_runs.proofs.accesses.write_access.Goals as goal

pub returns-then-not-is_due-clause-text : goal.returns-then-not-is_due-clause-text
returns-then-not-is_due-clause-text c =
    let turn : c.reader_at.result ≡ c.args.place % max c.args.plan.now.config.readers 1 = search rules in
    subst (λ (w : ℕ). AddsAccessAndTend w c.args.key c.args.is_due c.args.scribe.now.text.items
    c.get_or_put.new.scribe.text.items) turn
    (not_tended c.reader_at.result c.args.key c.args.is_due _ _ c.if-not-is_due.true c.in_ok-get_or_put.ensures.text)

pub returns-clause-text : goal.returns-clause-text
returns-clause-text c =
    let turn : c.reader_at.result ≡ c.args.place % max c.args.plan.now.config.readers 1 = search rules in
    subst (λ (w : ℕ). AddsAccessAndTend w c.args.key c.args.is_due c.args.scribe.now.text.items
    c.tend.new.scribe.text.items) turn
    (tended c.reader_at.result c.args.key c.args.is_due _ _ _ c.if-not-is_due.false c.in_ok-get_or_put.ensures.text
    c.in_ok-tend.ensures.text)
