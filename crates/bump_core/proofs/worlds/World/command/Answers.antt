use Rattle.std.proofs.Common.{◌≡◌, Some, subst}
use Rattle.std.specs.Prelude.{false, IfErr, OnOk}
use Rattle.bump_core.specs.Commands.{command_asks_for_memory, events_of}
use Rattle.bump_core.specs.Runs.{run_of, made_by}
use Rattle.model_state.specs.State.{State, SameSizes}
use Rattle.model_state.specs.Views.{state_of}
use Rattle.bump_core.proofs.commands.AreEvents.{command_keeps, command_events, command_runs, command_sizes, wants_where_asked}
use Rattle.bump_core.proofs.worlds.Headline.{headline}
use Rattle.bump_core.specs.Headline.{ClosedStay}
use Rattle.bump_core.specs.Labels.{KeepsLabels}
use Rattle.bump_core.proofs.worlds.Labels.{keeps_labels}
use Rattle.bump_core.proofs.worlds.ClosedRings.{closed_stay}
use Rattle.bump_rules.specs.declared.events.Refused.TheVariants.{NotEnabled}
use Rattle.bump_core.proofs.worlds.World.command.Goals as goal

pub invariant_of-self : goal.invariant_of-self
invariant_of-self c = command_keeps (state_of c.self.inside.inside) c.args.command
    (state_of c.command.new.inside) c.command.result c.self.invariant c.command.ensures

pub returns-clause-events : goal.returns-clause-events
returns-clause-events c = subst (λ (s : State). OnOk c.command.result (run_of s (events_of s c.args.command)
    ≡ Some (state_of c.command.new.inside))) c.self.view_is
    (command_events (state_of c.self.inside.inside) c.args.command
    (state_of c.command.new.inside) c.command.result c.self.invariant c.command.ensures)

pub returns-clause-lawful : goal.returns-clause-lawful
returns-clause-lawful c = (command_keeps (state_of c.self.inside.inside) c.args.command
    (state_of c.command.new.inside) c.command.result c.self.invariant c.command.ensures).0

pub returns-clause-sizes : goal.returns-clause-sizes
returns-clause-sizes c = subst (λ (s : State). SameSizes s (state_of c.command.new.inside)) c.self.view_is
    (command_sizes (state_of c.self.inside.inside) c.args.command
    (state_of c.command.new.inside) c.command.result c.self.invariant c.command.ensures)

pub returns-clause-headline : goal.returns-clause-headline
returns-clause-headline c = headline (state_of c.command.new.inside) (command_keeps
    (state_of c.self.inside.inside) c.args.command
    (state_of c.command.new.inside) c.command.result c.self.invariant c.command.ensures).0

pub returns-clause-memory : goal.returns-clause-memory
returns-clause-memory c = subst (λ (s : State). command_asks_for_memory s c.args.command ≡ false
    → IfErr c.command.result (λ r. r ≡ NotEnabled)) c.self.view_is
    (wants_where_asked (state_of c.self.inside.inside) c.args.command
    (state_of c.command.new.inside) c.command.result c.command.ensures)

pub returns-clause-labels : goal.returns-clause-labels
returns-clause-labels c = subst (λ (s : State). KeepsLabels s (made_by (events_of s c.args.command) c.command.result)
    (state_of c.command.new.inside)) c.self.view_is
    (keeps_labels (made_by (events_of (state_of c.self.inside.inside) c.args.command) c.command.result)
    (state_of c.self.inside.inside) (state_of c.command.new.inside) c.self.invariant.0
    (command_runs (state_of c.self.inside.inside) c.args.command
    (state_of c.command.new.inside) c.command.result c.self.invariant c.command.ensures))

pub returns-clause-closed : goal.returns-clause-closed
returns-clause-closed c = subst (λ (s : State). ClosedStay s (state_of c.command.new.inside)) c.self.view_is
    (closed_stay (state_of c.self.inside.inside)
    (made_by (events_of (state_of c.self.inside.inside) c.args.command) c.command.result)
    (state_of c.command.new.inside)
    (command_runs (state_of c.self.inside.inside) c.args.command
    (state_of c.command.new.inside) c.command.result c.self.invariant c.command.ensures))
