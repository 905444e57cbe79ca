use Rattle.store_trace.specs.Dealing.{in_turn, group_lanes}
use Rattle.store_trace.proofs.DealtLanes.{gathered_more}
use Rattle.store_trace.proofs.dealing.gather.Goals as goal

pub loop-done-preserved : goal.loop-done-preserved
loop-done-preserved g c =
    gathered_more c.loop-done.lanes.items c.push.new.self.items c.in-Some.lane c.args.count c.loop-done.done
    (group_lanes c.loop-done.left.items) (group_lanes c.take_first.new.groups.items) (in_turn c.args.count (group_lanes c.args.groups.items))
    c.in_ok-push.ensures.items c.loop-done-test.true c.loop-done.invariant (rw c.in-Some.is at c.in_ok-lane.ensures)
