use Rattle.store_trace.proofs.InTurn.{so_far_next}
use Rattle.store_trace.proofs.joining.join_drainers.Goals as goal

pub loop-drainer-preserved : goal.loop-drainer-preserved
loop-drainer-preserved g c =
    so_far_next _ c.args.drainers.items _ _ c.loop-drainer.groups.items c.push.new.self.items c.in-Some.drainer c.join.result
    c.in-Some.ensures.steps.0 c.in_ok-push.ensures.items c.loop-drainer.invariant c.join.ensures
