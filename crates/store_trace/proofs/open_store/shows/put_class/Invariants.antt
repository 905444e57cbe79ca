use Rattle.store_trace.specs.WholeLines.{IsLines}
use Rattle.store_trace.proofs.open_store.shows.put_class.Given as goal

-- the text so far is whole lines, where it was before
abbrev pub invariant-loop-place : goal.invariant-loop-place
invariant-loop-place g l = IsLines l.fn.out.items → IsLines l.out.items
