use Rattle.std.proofs.Common.{ap, ◌∙◌, length, subst}
use Rattle.bump_class.specs.Lanes.{entries}
use Rattle.bump_store.specs.Lanes.{LaneState, NothingAboard}
use Rattle.bump_store.proofs.lanes.Lane.applied.Goals as goal

pub returns-clause-count : goal.returns-clause-count
returns-clause-count g c = c.applied.ensures ∙ ap (λ (s : LaneState). length (entries s.lane)) c.self.view_is

pub returns-clause-idle : goal.returns-clause-idle
returns-clause-idle g c = subst (λ (s : LaneState). NothingAboard s.lane) c.self.view_is c.self.invariant
