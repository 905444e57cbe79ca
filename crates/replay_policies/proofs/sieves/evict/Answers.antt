use Rattle.std.proofs.Common.{◌≢◌, refl, ap, arith}
use Rattle.replay_policies.specs.Queues.{held_by}
use Rattle.replay_policies.proofs.sieves.evict.Goals as goal

pub loop-entry-preserved : goal.loop-entry-preserved
loop-entry-preserved c =
    let was = c.loop-entry.invariant in
    let popped = c.in-Some.ensures in
    let pushed = c.push_second.ensures in
    let turned = c.turn-in-Some.ensures in
    record {
      queues = record {
        first_room = omega (arith, was.queues.first_room, popped.first_room, pushed.first_room, turned.first_room);
        second_room = omega (arith, was.queues.second_room, popped.second_room, pushed.second_room, turned.second_room);
        few = omega (arith, was.queues.few, popped.count, popped.found.0 refl, popped.second_count, pushed.count, pushed.first_count, turned.count);
        turned = turned.turned;
      };
      left = record {
        absent = λ key none.
            let absent = was.left.absent key none in
            let other : key ≢ c.in-Some.entry.key =
            λ e. (let same = ap (held_by c.loop-entry.queues) e in let held = popped.held in omega (arith, same, absent, held)) in
            let left = popped.left.absent key absent in
            let same = pushed.others key other in
            turned.left.absent key (omega (arith, left, same));
        places = λ key p. turned.left.places key (pushed.places key (popped.left.places key (was.left.places key p)));
      };
    }
