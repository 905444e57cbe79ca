use Rattle.cache_lists.proofs.Standings.{keeps_then}
use Rattle.cache_part.proofs.tending.balance.Goals as goal

pub returns-clause-kept : goal.returns-clause-kept
returns-clause-kept g c = keeps_then _ _ _ c.cold_age-age.ensures.kept c.balance_by.ensures.kept
