use Rattle.std.proofs.Common.{◌∙◌, sym, subst}
use Rattle.model_state.specs.State.{State}
use Rattle.bump_trace.specs.Ready.{HoldsStay}
use Rattle.bump_trace.proofs.CommandsAtRest.{Keeps, keeps_command}
use Rattle.bump_trace.proofs.HoldsOfItems.{holds_stay}
use Rattle.bump_trace.proofs.open_store.OpenStore.command.Goals as goal

pub returns-in-Ok-clause-ready : goal.returns-in-Ok-clause-ready
returns-in-Ok-clause-ready c =
    let ready = c.requires.ready in
    let kept = subst (λ (t : State). Keeps c.args.self.now.world t) (sym c.in-Ok.ensures.command.1) (keeps_command c.args.self.now.world c.args.command) in
    record { workers = kept.workers ∙ ready.workers; classes = kept.classes ∙ ready.classes; capacity = kept.capacity ∙ ready.capacity; rest = kept.rest ready.rest; lawful = c.in-Ok.ensures.lawful }

pub returns-in-Ok-clause-holds : goal.returns-in-Ok-clause-holds
returns-in-Ok-clause-holds c =
    subst (λ (t : State). HoldsStay c.args.self.now.world t) (sym c.in-Ok.ensures.command.1) (holds_stay c.args.self.now.world c.args.command c.requires.ready.lawful c.requires.allowed c.requires.kept)
