use Rattle.std.proofs.Common.{subst, inl, inr, List, ℕ}
use Rattle.replay_runs.specs.Writing.{AddsPut}
use Rattle.replay_runs.proofs.accesses.get_or_put.Goals as goal

pub returns-then-branch-clause-text : goal.returns-then-branch-clause-text
returns-then-branch-clause-text c = inl (c.in_ok-get.ensures.got c.if-branch.true)

pub returns-clause-text : goal.returns-clause-text
returns-clause-text c =
    let nothing = c.in_ok-get.ensures.none c.if-branch.false in
    inr (subst (λ (t : List ℕ). AddsPut c.args.key t c.place.new.scribe.text.items) nothing c.in_ok-place.ensures.text)
