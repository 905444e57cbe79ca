use Rattle.std.proofs.Common.{◌∙◌, sym, subst}
use Rattle.model_state.specs.State.{State}
use Rattle.bump_rules.specs.declared.commands.Command.TheVariants as command
use Rattle.bump_trace.specs.Ready.{GivesBack}
use Rattle.bump_trace.proofs.CommandsAtRest.{Keeps, keeps_command}
use Rattle.bump_trace.proofs.HoldsOfItems.{given_back}
use Rattle.bump_trace.proofs.open_store.OpenStore.release.Goals as goal

pub returns-in-Ok-clause-ready : goal.returns-in-Ok-clause-ready
returns-in-Ok-clause-ready c =
    let ready = c.requires.ready in
    let kept = subst (λ (t : State). Keeps c.args.self.now.world t) (sym c.in-Ok.ensures.command.1) (keeps_command c.args.self.now.world (command.Release c.args.id)) in
    record { workers = kept.workers ∙ ready.workers; classes = kept.classes ∙ ready.classes; capacity = kept.capacity ∙ ready.capacity; rest = kept.rest ready.rest; lawful = c.in-Ok.ensures.lawful }

pub returns-in-Ok-clause-holds : goal.returns-in-Ok-clause-holds
returns-in-Ok-clause-holds c =
    subst (λ (t : State). GivesBack c.args.id c.args.self.now.world t) (sym c.in-Ok.ensures.command.1) (given_back c.args.self.now.world c.args.id c.requires.hold)
