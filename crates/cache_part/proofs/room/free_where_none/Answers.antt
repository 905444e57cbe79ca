use Rattle.std.proofs.Common.{arith, inr}
use Rattle.cache_part.proofs.HeldLemmas.{at_last_evictions}
use Rattle.cache_part.proofs.room.free_where_none.Goals as goal

pub returns-clause-frees : goal.returns-clause-frees
returns-clause-frees g c = inr (omega arith, c.free_at_last.ensures.frees)

pub returns-clause-evictions : goal.returns-clause-evictions
returns-clause-evictions g c = at_last_evictions _ _ _ _ _ _ c.free_at_last.ensures.frees
