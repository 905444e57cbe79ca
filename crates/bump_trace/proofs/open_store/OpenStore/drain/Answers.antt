use Rattle.std.proofs.Common.{ap, sym, subst, arith}
use Rattle.bump_rules.specs.Lists.{ascending}
use Rattle.model_state.specs.State.{State}
use Rattle.bump_trace.specs.Ready.{HoldsStay}
use Rattle.bump_trace.proofs.HoldsOfItems.{stay_through}
use Rattle.bump_trace.proofs.HeldNames.{store_still}
use Rattle.bump_trace.specs.declared.open_store.OpenStore.{OpenStore}
use Rattle.bump_trace.specs.Views.{store_of}
use Rattle.bump_trace.proofs.SameButWorld.{same_rest}
use Rattle.bump_trace.proofs.Draining.{worker_step, workers_done, drain_meant}
use Rattle.bump_trace.proofs.open_store.OpenStore.drain.Goals as goal

pub loop-worker-preserved : goal.loop-worker-preserved
loop-worker-preserved c =
    let (drained, same, ready, few) = c.loop-worker.invariant in
    let done = c.in_ok-count.ensures in
    let (self, out, count) = done.drained in (
      worker_step c.args.now c.loop-worker.worker c.args.self.now.workers c.loop-worker.self.capacity c.loop-worker.count c.in_ok-count.field-0 c.loop-worker.self.world c.drain_worker.new.self.world c.loop-worker.out.items c.drain_worker.new.out.items _
          c.loop-worker-test.true ready.capacity (ap (λ (b : OpenStore). b.world) self) out count drained,
      same_rest c.drain_worker.new.self c.loop-worker.self c.args.self.now _ self same,
      done.ready,
      omega (arith, few, done.few),
    )

pub returns : goal.returns
returns c =
    let (drained, same, ready, few) = c.loop-worker.invariant in
    let all = workers_done c.args.now c.loop-worker.worker c.args.self.now.workers c.loop-worker.count c.loop-worker.self.world c.loop-worker.out.items _ (omega (arith, c.loop-worker-test.false)) drained in
    record {
      said = drain_meant (store_of c.args.self.now) (store_of c.loop-worker.self) c.args.now _ c.loop-worker.count c.loop-worker.out.items c.put_drain.new.out.items c.requires.ready.workers all (ap store_of same) c.in_ok-put_drain.ensures;
      steady = record {
        ready = ready;
        holds = store_still c.loop-worker.self c.args.self.now _ same
            (subst (λ (t : State). HoldsStay c.args.self.now.world t) (sym all.same_state) (stay_through c.args.now (ascending 0 c.args.self.now.workers) c.args.self.now.world)) c.requires.holds;
      };
    }
