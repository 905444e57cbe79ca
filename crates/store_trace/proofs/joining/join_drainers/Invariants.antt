use Rattle.std.specs.Vec.Iter.{into_iter_items}
use Rattle.store_trace.specs.Jobs.{DrainerMade}
use Rattle.store_trace.proofs.InTurn.{SoFar}
use Rattle.store_trace.proofs.joining.join_drainers.Given as goal

-- those that came back, and those that are still to come
abbrev pub invariant-loop-drainer : goal.invariant-loop-drainer
invariant-loop-drainer g l =
    SoFar (λ drainer group. DrainerMade drainer group.items) l.fn.drainers.items (into_iter_items l.drainer-iterator) l.groups.items
