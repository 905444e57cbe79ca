use Rattle.store_trace.specs.WholeLines.{IsLines}
use Rattle.store_trace.proofs.open_store.OpenStore.put_classes.Given as goal

-- the text so far is whole lines, where it was before
abbrev pub invariant-loop-class : goal.invariant-loop-class
invariant-loop-class g l = IsLines l.fn.out.items → IsLines l.out.items
