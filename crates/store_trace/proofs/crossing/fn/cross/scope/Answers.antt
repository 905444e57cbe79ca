use Rattle.std.proofs.Common.{◌≡◌, List, Global, length, sym, ap, ◌∙◌, subst, arith}
use Rattle.std.specs.List.{AllZip}
use Rattle.std.specs.declared.collections.VecDeque.{VecDeque}
use Rattle.std.proofs.lemmas.Grind.{common_steps}
use Rattle.std.proofs.lemmas.List.{length-map}
use Rattle.bump_store.specs.Lanes.{LaneState}
use Rattle.bump_store.specs.Passes.{IsDrained}
use Rattle.store_trace.specs.Dealing.{in_turn, group_lanes}
use Rattle.store_trace.specs.Jobs.{DrainerMade}
use Rattle.store_trace.specs.Tasks.{MakesEach, drain_times, gets_of}
use Rattle.store_trace.specs.declared.jobs.DrainerThread.{DrainerThread}
use Rattle.store_trace.proofs.DealtLanes.{in_turn_zip}
use Rattle.store_trace.proofs.InTurn.{zip_long}
use Rattle.store_trace.proofs.JoinedJobs.{workers_made, groups_drained, lines_made}
use Rattle.store_trace.proofs.MadeLines.{rings_drained}
use Rattle.store_trace.proofs.crossing.fn.cross.scope.Goals as goal

pub returns : goal.returns
returns g c =
    let D = DrainerThread g.row.N.Denot in
    let V = VecDeque LaneState Global in
    let items = λ (v : V). v.items in
    let config = c.captures.store.now in
    let tasks = c.captures.chores.now.items in
    let times = drain_times tasks in
    let count = c.captures.count in
    let before = c.captures.groups.items in
    let drainers = c.in_ok-draining.draining.items in
    let after = c.in_ok-groups.groups.items in
    let made = c.in_ok-groups.ensures.groups in
    let lines = c.in_ok-draining.ensures.lines in
    let lanes = c.in_ok-draining.ensures.lanes in
    let as_many : length after ≡ length before =
    zip_long (λ (d : D) (v : V). DrainerMade d v.items) drainers after made ∙ sym (length-map drainers (λ (d : D). d.handle.promise.lanes.value.items))
    ∙ ap length lanes ∙ length-map before items in
    let drained : AllZip (MakesEach IsDrained times) (in_turn count (group_lanes before)) c.in_ok-gather.field-0.items =
    subst (AllZip (MakesEach IsDrained times) (in_turn count (group_lanes before))) (sym c.in_ok-gather.ensures)
    (subst (λ (gs : List (List LaneState)). AllZip (MakesEach IsDrained times) (in_turn count gs) (in_turn count (group_lanes after))) lanes
    (in_turn_zip (MakesEach IsDrained times) count _ (group_lanes after) (groups_drained items config tasks drainers after lines made))) in
    let same = c.in_ok-slots.ensures.rings ∙ c.in_ok-working.ensures.rings in record {
      drainers = grind (arith, common_steps, as_many);
      rings = same ∙ c.requires.rings ∙ sym (rings_drained times (in_turn count (group_lanes before)) c.in_ok-gather.field-0.items drained);
      same = same;
      gets = workers_made config c.captures.slots.items (gets_of c.captures.gets.items) c.in_ok-working.working.items c.in_ok-slots.slots.items
          c.in_ok-slots.totals c.in_ok-slots.is_stopped c.in_ok-working.ensures.jobs c.in_ok-slots.ensures.came;
      drained = drained;
      made = lines_made items config tasks (length before) drainers after c.requires.some c.in_ok-draining.ensures.shares lines made;
      err = tt;
    }
