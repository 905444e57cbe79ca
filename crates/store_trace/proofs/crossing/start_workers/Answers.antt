use Rattle.std.proofs.Common.{◌≡◌, List, [], ◌∷◌, length, sym, ap, ◌∙◌, arith}
use Rattle.std.specs.Vec.Iter.{into_iter_items}
use Rattle.std.proofs.lemmas.List.{nil_from_length}
use Rattle.store_trace.specs.Jobs.{job_ring, IsJobOf, with_lines}
use Rattle.store_trace.specs.Slots.{slot_ring}
use Rattle.store_trace.specs.Tasks.{gets_of}
use Rattle.store_trace.specs.declared.jobs.Job.{Job}
use Rattle.store_trace.specs.declared.slots.Slot.{Slot}
use Rattle.store_trace.specs.declared.tasks.GetTask.{GetTask}
use Rattle.store_trace.proofs.InTurn.{moved_over, moved_all, so_far_next, so_far_all}
use Rattle.store_trace.proofs.crossing.start_workers.Goals as goal

pub loop-slot-preserved : goal.loop-slot-preserved
loop-slot-preserved g c =
    let i = c.loop-slot.invariant in
    let R = λ (one : Slot g.row.N.Denot × List GetTask) (job : Job g.row.N.Denot). IsJobOf c.args.store.now one.0 one.1 job in
    let rest = into_iter_items c.loop-slot.slot-iterator in
    let left = into_iter_items c.next.new.self in
    let gets = into_iter_items c.loop-slot.left in
    let others = into_iter_items c.next-in-loop-slot.new.self in
    let slot = c.in-Some.slot in
    let tasks = c.in-Some-next.tasks in
    let jobs = c.loop-slot.jobs.items in
    let more = c.put_behind.new.all.items in
    let is_slot : rest ≡ slot ∷ left = c.in-Some.ensures.steps.0 in
    let is_gets : gets ≡ tasks ∷ others = c.in-Some-next.ensures.items in
    let next : with_lines rest (gets_of gets) ≡ (slot, tasks.items) ∷ with_lines left (gets_of others) =
    ap (λ ss. with_lines ss (gets_of gets)) is_slot ∙ ap (λ gs. with_lines (slot ∷ left) (gets_of gs)) is_gets in record {
      jobs = so_far_next R (with_lines c.args.slots.items (gets_of c.args.gets.items)) (with_lines rest (gets_of gets)) (with_lines left (gets_of others))
          jobs more (slot, tasks.items) c.in_ok-job.job next c.in_ok-put_behind.ensures i.jobs c.in_ok-job.ensures.job;
      rings = moved_over job_ring slot_ring jobs more c.in_ok-job.job rest left slot _ c.in_ok-put_behind.ensures is_slot c.in_ok-job.ensures.ring i.rings;
      count = omega (arith, i.count, ap length is_slot, ap length is_gets);
    }

pub returns-clause-jobs : goal.returns-clause-jobs
returns-clause-jobs g c =
    let R = λ (one : Slot g.row.N.Denot × List GetTask) (job : Job g.row.N.Denot). IsJobOf c.args.store.now one.0 one.1 job in
    let gets = gets_of (into_iter_items c.loop-slot.left) in
    let none : into_iter_items c.loop-slot.slot-iterator ≡ [] = nil_from_length c.loop-slot.slot-iterator.rest.items (sym c.loop-slot.slot-iterator.rest.ok.0 ∙ c.in-None.ensures.steps.0) in
    so_far_all R (with_lines c.args.slots.items (gets_of c.args.gets.items)) (with_lines (into_iter_items c.loop-slot.slot-iterator) gets)
    c.loop-slot.jobs.items (ap (λ ss. with_lines ss gets) none) c.loop-slot.invariant.jobs

pub returns-clause-rings : goal.returns-clause-rings
returns-clause-rings g c =
    let none : into_iter_items c.loop-slot.slot-iterator ≡ [] = nil_from_length c.loop-slot.slot-iterator.rest.items (sym c.loop-slot.slot-iterator.rest.ok.0 ∙ c.in-None.ensures.steps.0) in
    moved_all job_ring slot_ring c.loop-slot.jobs.items (into_iter_items c.loop-slot.slot-iterator) _ none c.loop-slot.invariant.rings
