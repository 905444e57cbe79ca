use Rattle.bump_store.proofs.SettlingLemmas.{equal_iff}
use Rattle.bump_store.proofs.lanes.Lane.applied_as_many.Goals as goal

pub returns : goal.returns
returns g c = equal_iff _ _ _ _ c.applied.ensures.count c.counts.ensures.add_up.accepted
