use Rattle.std.proofs.Common.{◌≡◌, Bool, true, ◌||◌, sym, ap, ◌∙◌, subst}
use Rattle.std.specs.Vec.Iter.{into_iter_items}
use Rattle.store_trace.specs.Jobs.{job_ring}
use Rattle.store_trace.specs.Slots.{slot_ring}
use Rattle.store_trace.specs.Totals.{both_totals}
use Rattle.store_trace.proofs.InTurn.{moved_over}
use Rattle.store_trace.specs.declared.totals.Totals.{Totals}
use Rattle.store_trace.proofs.JoinedJobs.{CameSoFar, came_next}
use Rattle.store_trace.proofs.joining.join_workers.Goals as goal
use Rattle.store_trace.proofs.joining.join_workers.Goals.{then-is_stopped, else-is_stopped}

-- one that is stopped is with any other
or_true : (a b : Bool) → a ≡ true → true ≡ (a || b)
or_true a b is = sym (ap (λ (x : Bool). x || b) is)

pub loop-job-preserved : goal.loop-job-preserved
loop-job-preserved g c =
    let joined = c.join_worker-joined.result in
    let before = c.loop-job.is_stopped in
    let left = into_iter_items c.next.new.self in
    let slots = c.push.new.self.items in
    let stopped : c.if-is_stopped.is_stopped ≡ (before || joined.is_stopped) = elim c.if-is_stopped.branch [
      | then-is_stopped w ↦ w.is_stopped-is ∙ w.if-is_stopped.true ∙ or_true before joined.is_stopped w.if-is_stopped.true
      | else-is_stopped w ↦ w.is_stopped-is ∙ sym (ap (λ (b : Bool). b || joined.is_stopped) w.if-is_stopped.false)
    ] in record {
      rings = moved_over slot_ring job_ring c.loop-job.slots.items slots joined.slot (into_iter_items c.loop-job.job-iterator) left c.in-Some.job _
          c.in_ok-push.ensures.items c.in-Some.ensures.steps.0 c.join_worker-joined.ensures.ring c.loop-job.invariant.rings;
      came = subst (λ (t : Totals). CameSoFar c.args.jobs.items left slots t c.if-is_stopped.is_stopped) (sym c.add.ensures)
          (subst (λ (b : Bool). CameSoFar c.args.jobs.items left slots (both_totals c.loop-job.totals joined.totals) b) (sym stopped)
          (came_next c.args.jobs.items (into_iter_items c.loop-job.job-iterator) left c.loop-job.slots.items slots c.loop-job.totals before c.in-Some.job joined
          c.in-Some.ensures.steps.0 c.in_ok-push.ensures.items c.loop-job.invariant.came c.join_worker-joined.ensures.came));
    }
