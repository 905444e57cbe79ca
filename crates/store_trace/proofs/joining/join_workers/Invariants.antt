use Rattle.std.proofs.Common.{◌≡◌, ◌++◌}
use Rattle.std.specs.Vec.Iter.{into_iter_items}
use Rattle.store_trace.specs.Jobs.{job_rings}
use Rattle.store_trace.specs.Slots.{slot_rings}
use Rattle.store_trace.proofs.JoinedJobs.{CameSoFar}
use Rattle.store_trace.proofs.joining.join_workers.Given as goal

-- those that came back, and those that are still to come
abbrev pub invariant-loop-job : goal.invariant-loop-job
invariant-loop-job g l = record {
  rings : slot_rings l.slots.items ++ job_rings (into_iter_items l.job-iterator) ≡ job_rings l.fn.jobs.items;
  came : CameSoFar l.fn.jobs.items (into_iter_items l.job-iterator) l.slots.items l.totals l.is_stopped;
}
