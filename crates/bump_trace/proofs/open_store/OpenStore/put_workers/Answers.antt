use Rattle.bump_trace.specs.Shows.{worker_line}
use Rattle.bump_trace.proofs.AscendingLoops.{printed_more}
use Rattle.bump_trace.proofs.open_store.OpenStore.put_workers.Goals as goal

pub loop-worker-preserved : goal.loop-worker-preserved
loop-worker-preserved c =
    printed_more (worker_line c.args.self.now.world) c.loop-worker.out.items _ _ c.loop-worker.worker _ c.loop-worker-test.true c.in_ok-put_accounts.ensures c.loop-worker.invariant
