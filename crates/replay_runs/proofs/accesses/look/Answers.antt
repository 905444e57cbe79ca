use Rattle.std.proofs.Common.{inl, inr}
use Rattle.replay_runs.proofs.WritingLemmas.{adds_both, adds_weaker}
use Rattle.replay_runs.proofs.accesses.look.Goals as goal

pub returns-then-hot-clause-text : goal.returns-then-hot-clause-text
returns-then-hot-clause-text c =
    adds_both (adds_weaker (λ line. inl) c.in_ok-hot.ensures.text) (adds_weaker (λ line. inr) c.in_ok-warm.ensures.text)

pub returns-else-hot-clause-text : goal.returns-else-hot-clause-text
returns-else-hot-clause-text c =
    adds_both (adds_weaker (λ line. inl) c.in_ok-hot.ensures.text) (adds_weaker (λ line. inr) c.in_ok-warm.ensures.text)
