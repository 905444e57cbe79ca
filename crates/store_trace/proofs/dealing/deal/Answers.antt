use Rattle.std.proofs.Common.{suc, ◌∙◌, append-nil, arith}
use Rattle.store_trace.specs.Dealing.{group_lanes}
use Rattle.store_trace.proofs.DealtLanes.{dealt_more}
use Rattle.store_trace.proofs.dealing.deal.Goals as goal

pub loop-lane-init : goal.loop-lane-init
loop-lane-init g c = record {
  count = omega arith;
  dealt = (0, omega arith, append-nil c.args.lanes.items);
}

pub loop-lane-preserved : goal.loop-lane-preserved
loop-lane-preserved g c =
    let (n, sum, is_all) = c.loop-lane.invariant.dealt in
    let left = c.pop.new.self.items in
    record {
      count = c.in_ok-put_first.ensures.count ∙ c.loop-lane.invariant.count;
      dealt = (
        suc n,
        omega (arith, sum, c.in-Some.ensures.len),
        dealt_more c.loop-lane.left.items left c.in-Some.lane n (group_lanes c.loop-lane.groups.items)
            (group_lanes c.put_first.new.groups.items) c.args.lanes.items c.in-Some.ensures.items is_all c.in_ok-put_first.ensures.lanes,
      );
    }
