use Rattle.store_trace.proofs.EndedLines.{line_behind, drain_ends}
use Rattle.store_trace.proofs.open_store.OpenStore.drain.Goals as goal

pub returns-clause-lines : goal.returns-clause-lines
returns-clause-lines g c =
    λ before. line_behind c.loop-number.out.items _ c.put_drain.new.out.items (drain_ends c.loop-number.count) c.in_ok-put_drain.ensures
