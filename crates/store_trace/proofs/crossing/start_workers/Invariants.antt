use Rattle.std.proofs.Common.{◌≡◌, ◌++◌, length}
use Rattle.std.specs.Vec.Iter.{into_iter_items}
use Rattle.store_trace.specs.Jobs.{job_rings, IsJobOf, with_lines}
use Rattle.store_trace.specs.Slots.{slot_rings}
use Rattle.store_trace.specs.Tasks.{gets_of}
use Rattle.store_trace.proofs.InTurn.{SoFar}
use Rattle.store_trace.proofs.crossing.start_workers.Given as goal

-- those that were started, each with its lines, and those that are still to come
abbrev pub invariant-loop-slot : goal.invariant-loop-slot
invariant-loop-slot g l = record {
  jobs : SoFar (λ one job. IsJobOf l.store one.0 one.1 job) (with_lines l.fn.slots.items (gets_of l.fn.gets.items))
      (with_lines (into_iter_items l.slot-iterator) (gets_of (into_iter_items l.left))) l.jobs.items;
  rings : job_rings l.jobs.items ++ slot_rings (into_iter_items l.slot-iterator) ≡ slot_rings l.fn.slots.items;
  count : length (into_iter_items l.left) ≡ length (into_iter_items l.slot-iterator);
}
