use Rattle.std.proofs.Common.{inl, inr, refl}
use Rattle.replay_runs.proofs.accesses.drain_for_put.Goals as goal

pub returns-then-not-applies_bumps-clause-text : goal.returns-then-not-applies_bumps-clause-text
returns-then-not-applies_bumps-clause-text c = inl refl

pub returns-clause-text : goal.returns-clause-text
returns-clause-text c = inr c.in_ok-drain.ensures.text
