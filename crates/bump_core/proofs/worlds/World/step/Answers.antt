use Rattle.std.proofs.Common.{◌≡◌, [], ◌∷◌, subst}
use Rattle.std.specs.Prelude.{false, IfErr}
use Rattle.bump_rules.specs.declared.events.Refused.TheVariants.{NotEnabled}
use Rattle.model_state.specs.Views.{state_of}
use Rattle.model_state.specs.State.{State, SameSizes}
use Rattle.bump_core.proofs.worlds.Sizes.{step_sizes}
use Rattle.bump_core.proofs.worlds.Headline.{headline}
use Rattle.bump_core.specs.Headline.{ClosedStay}
use Rattle.bump_core.specs.Labels.{KeepsLabels}
use Rattle.model_state.specs.Events.{Steps, asks_for_memory}
use Rattle.bump_core.specs.Runs.{made_by}
use Rattle.bump_core.proofs.events.Runs.{step_runs}
use Rattle.bump_core.proofs.worlds.Labels.{keeps_labels}
use Rattle.bump_core.proofs.worlds.ClosedRings.{closed_stay}
use Rattle.bump_core.proofs.worlds.StaysLawful.{step_keeps}
use Rattle.bump_core.proofs.worlds.World.step.Goals as goal

pub invariant_of-self : goal.invariant_of-self
invariant_of-self c = step_keeps (state_of c.self.inside.inside) c.args.event
    (state_of c.step.new.inside) c.step.result c.self.invariant c.step.ensures.step

pub returns-clause-lawful : goal.returns-clause-lawful
returns-clause-lawful c = (step_keeps (state_of c.self.inside.inside) c.args.event
    (state_of c.step.new.inside) c.step.result c.self.invariant c.step.ensures.step).0

pub returns-clause-sizes : goal.returns-clause-sizes
returns-clause-sizes c = subst (λ (s : State). SameSizes s (state_of c.step.new.inside)) c.self.view_is
    (step_sizes (state_of c.self.inside.inside) c.args.event
    (state_of c.step.new.inside) c.step.result c.step.ensures.step)

pub returns-clause-headline : goal.returns-clause-headline
returns-clause-headline c = headline (state_of c.step.new.inside)
    (step_keeps (state_of c.self.inside.inside) c.args.event
    (state_of c.step.new.inside) c.step.result c.self.invariant c.step.ensures.step).0

pub returns-clause-labels : goal.returns-clause-labels
returns-clause-labels c = subst (λ (s : State). KeepsLabels s (made_by (c.args.event ∷ []) c.step.result)
    (state_of c.step.new.inside)) c.self.view_is
    (keeps_labels (made_by (c.args.event ∷ []) c.step.result) (state_of c.self.inside.inside)
    (state_of c.step.new.inside) c.self.invariant.0
    (step_runs (state_of c.self.inside.inside) c.args.event
    (state_of c.step.new.inside) c.step.result c.step.ensures.step))

pub returns-clause-closed : goal.returns-clause-closed
returns-clause-closed c = subst (λ (s : State). ClosedStay s (state_of c.step.new.inside)) c.self.view_is
    (closed_stay (state_of c.self.inside.inside) (made_by (c.args.event ∷ []) c.step.result) (state_of c.step.new.inside)
    (step_runs (state_of c.self.inside.inside) c.args.event
    (state_of c.step.new.inside) c.step.result c.step.ensures.step))

pub returns-clause-step : goal.returns-clause-step
returns-clause-step c = subst (λ (s : State). Steps s c.args.event (state_of c.step.new.inside) c.step.result)
    c.self.view_is c.step.ensures.step

pub returns-clause-memory : goal.returns-clause-memory
returns-clause-memory c = subst (λ (s : State). asks_for_memory s c.args.event ≡ false
    → IfErr c.step.result (λ r. r ≡ NotEnabled)) c.self.view_is c.step.ensures.memory
