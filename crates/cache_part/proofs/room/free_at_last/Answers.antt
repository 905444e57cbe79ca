use Rattle.std.proofs.Common.{arith, inr}
use Rattle.cache_lists.proofs.Standings.{keeps_then}
use Rattle.cache_part.proofs.HeldLemmas.{freed_some}
use Rattle.cache_part.proofs.room.free_at_last.Goals as goal

pub returns-clause-frees : goal.returns-clause-frees
returns-clause-frees g c = record {
  swept = c.free_some.new.self;
  frees = freed_some _ _ c.free_some.result c.free_some.ensures.frees c.free_some.ensures.counts;
  ends = inr (omega arith, c.drain_and_sweep.ensures.did);
}

pub returns-clause-kept : goal.returns-clause-kept
returns-clause-kept g c = keeps_then _ _ _ c.free_some.ensures.kept c.drain_and_sweep.ensures.kept
