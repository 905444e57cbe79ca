use Rattle.store_trace.specs.WholeLines.{IsLines}
use Rattle.store_trace.proofs.pairs.Pair.drain.Given as goal

-- the text so far is whole lines, where it was before
abbrev pub invariant-loop-done : goal.invariant-loop-done
invariant-loop-done g l = IsLines l.fn.out.items → IsLines l.out.items
