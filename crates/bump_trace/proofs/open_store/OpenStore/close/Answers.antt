use Rattle.std.proofs.Common.{◌<◌, ap, sym, subst, ◌∙◌, length, rules, arith}
use Rattle.model_state.specs.State.{State}
use Rattle.bump_trace.specs.Ready.{HoldsStay}
use Rattle.bump_trace.specs.declared.open_store.OpenStore.{OpenStore}
use Rattle.bump_trace.proofs.CommandsAtRest.{close_allowed}
use Rattle.bump_trace.proofs.HoldsOfItems.{stay_drained}
use Rattle.bump_trace.proofs.HeldNames.{store_still}
use Rattle.bump_trace.proofs.WaitingBumps.{waiting_drained}
use Rattle.bump_trace.specs.OpenStore.{close_said, drained_of}
use Rattle.bump_trace.proofs.open_store.OpenStore.close.Goals as goal

pub command_by-requires-clause-allowed : goal.command_by-requires-clause-allowed
command_by-requires-clause-allowed c = close_allowed c.args.self.now.world c.args.worker c.requires.ready.rest

pub returns-clause-steady : goal.returns-clause-steady
returns-clause-steady c =
    let closed = c.in_ok-command_by.ensures in
    let b = c.command_by.new.self in
    let d = c.drain_worker.new.self in
    let drained = c.in_ok-drain_worker.ensures.drained.0 in
    let stay = subst (λ (t : State). HoldsStay b.world t) (sym (ap (λ (x : OpenStore). x.world) drained)) (stay_drained c.args.now c.args.worker b.capacity b.world) in
    record {
      ready = c.in_ok-drain_worker.ensures.ready;
      holds = store_still d b _ drained stay (store_still b c.args.self.now _ closed.after closed.holds c.requires.holds);
    }

pub returns-clause-said : goal.returns-clause-said
unfolding close_said
returns-clause-said c =
    let b = c.command_by.new.self in
    let ready = c.in_ok-command_by.ensures.ready in
    let within : c.args.worker < length b.world.workers = omega (
      arith,
      ready.workers,
      ap (λ (x : OpenStore). x.workers) c.in_ok-command_by.ensures.after,
    ) in
    let all =
    ap (λ i. drained_of c.args.now c.args.worker i b.world) (sym ready.capacity)
    ∙ waiting_drained c.args.now c.args.worker b.world within ready.rest ready.lawful in
    search (rules, all)
