use Rattle.std.proofs.Common.{inl, inr, refl}
use Rattle.replay_runs.proofs.accesses.evict_where_full.Goals as goal

pub returns-then-not-is_full-clause-text : goal.returns-then-not-is_full-clause-text
returns-then-not-is_full-clause-text c = inl refl

pub returns-clause-text : goal.returns-clause-text
returns-clause-text c = inr c.in_ok-evict.ensures.text
