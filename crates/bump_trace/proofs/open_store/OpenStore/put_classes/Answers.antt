use Rattle.bump_trace.specs.Shows.{class_lines}
use Rattle.bump_trace.proofs.AscendingLoops.{printed_more}
use Rattle.bump_trace.proofs.open_store.OpenStore.put_classes.Goals as goal

pub loop-class-preserved : goal.loop-class-preserved
loop-class-preserved c =
    printed_more (class_lines c.args.self.now.world) c.loop-class.out.items _ _ c.loop-class.class _ c.loop-class-test.true c.in_ok-put_class.ensures c.loop-class.invariant
