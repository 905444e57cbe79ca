use Rattle.cache_lists.proofs.Standings.{keeps_then}
use Rattle.cache_part.proofs.HeldLemmas.{left_held}
use Rattle.cache_part.proofs.room.drain_and_sweep.Goals as goal

pub returns-clause-did : goal.returns-clause-did
returns-clause-did g c =
    let drained = c.drain.new.lists in let after = c.sweep.new.self in let swept = c.sweep.ensures.swept in record {
      drained = drained;
      drains = c.drain.ensures.drains;
      evictions = c.drain.ensures.evictions;
      freed = c.sweep.result;
      heads = swept.0;
      sweeps = swept.1;
      same = λ i. record {
        book = after.book;
        flow = c.sweep.ensures.counts.0 i;
        evictions = c.sweep.ensures.counts.1 i;
      };
      held = left_held drained.book after.book c.sweep.result swept.0 c.promise.ensures.book swept.1;
    }

pub returns-clause-kept : goal.returns-clause-kept
returns-clause-kept g c = keeps_then _ _ _ c.drain.ensures.kept c.sweep.ensures.kept
