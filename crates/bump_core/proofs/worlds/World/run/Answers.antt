use Rattle.std.proofs.Common.{◌≡◌, List, Some, take, subst, arith}
use Rattle.std.proofs.lemmas.List.{take_all}
use Rattle.bump_rules.specs.declared.events.Event.{Event}
use Rattle.bump_core.specs.Headline.{ClosedStayFrom}
use Rattle.bump_core.specs.Labels.{KeepsLabels}
use Rattle.bump_core.specs.Runs.{run_of}
use Rattle.std.proofs.lemmas.Option.{slice_get-get_or}
use Rattle.model_state.specs.Worlds.{IsLawful}
use Rattle.bump_core.proofs.worlds.Headline.{headline}
use Rattle.bump_core.proofs.worlds.Labels.{keeps_labels}
use Rattle.bump_core.proofs.worlds.ClosedRings.{closed_from}
use Rattle.bump_core.proofs.worlds.StaysLawful.{run_lawful}
use Rattle.bump_core.proofs.events.Runs.{run_refused, run_more, refused_stays}
use Rattle.bump_core.proofs.worlds.Sizes.{run_sizes, refused_sizes}
use Rattle.bump_core.proofs.worlds.World.run.Goals as goal

pub returns-in-Err-clause-run : goal.returns-in-Err-clause-run
returns-in-Err-clause-run c =
    run_refused c.args.self.now c.args.events.now c.loop-place.place c.loop-place.self c.step.new.self _
    c.in-Err.refused c.loop-place.invariant
    (slice_get-get_or c.args.events.now c.loop-place.place _ c.loop-place-test.true) c.in-Err.ensures.step
    c.in-Err.ensures.memory

pub loop-place-preserved : goal.loop-place-preserved
loop-place-preserved c = run_more c.args.self.now c.args.events.now c.loop-place.place _ c.loop-place.self
    c.step.new.self c.loop-place-test.true c.loop-place.invariant c.in_default.ensures.step.enabled
    c.in_default.ensures.step.state

pub returns-in-Err-clause-sizes : goal.returns-in-Err-clause-sizes
returns-in-Err-clause-sizes c =
    refused_sizes c.args.self.now _ c.loop-place.self _ c.step.new.self c.in-Err.refused c.loop-place.invariant
    c.in-Err.ensures.step

pub returns-clause-sizes : goal.returns-clause-sizes
returns-clause-sizes c = run_sizes c.args.self.now _ c.loop-place.self c.loop-place.invariant

pub returns-in-Err-clause-labels : goal.returns-in-Err-clause-labels
returns-in-Err-clause-labels c =
    keeps_labels (take c.loop-place.place c.args.events.now) c.args.self.now c.step.new.self
    (subst IsLawful c.self.view_is c.self.invariant.0)
    (refused_stays c.args.self.now
    (take c.loop-place.place c.args.events.now) c.loop-place.self _ c.step.new.self c.in-Err.refused
    c.loop-place.invariant c.in-Err.ensures.step)

pub returns-in-Err-clause-closed : goal.returns-in-Err-clause-closed
returns-in-Err-clause-closed c = closed_from c.args.self.now (take c.loop-place.place c.args.events.now) c.step.new.self
    (refused_stays c.args.self.now
    (take c.loop-place.place c.args.events.now) c.loop-place.self _ c.step.new.self c.in-Err.refused
    c.loop-place.invariant c.in-Err.ensures.step)

pub returns-clause-lawful : goal.returns-clause-lawful
returns-clause-lawful c = run_lawful c.args.self.now (take c.loop-place.place c.args.events.now) c.loop-place.self
    (subst IsLawful c.self.view_is c.self.invariant.0) c.loop-place.invariant

pub returns-clause-headline : goal.returns-clause-headline
returns-clause-headline c = headline c.loop-place.self (run_lawful c.args.self.now
    (take c.loop-place.place c.args.events.now) c.loop-place.self
    (subst IsLawful c.self.view_is c.self.invariant.0) c.loop-place.invariant)

pub returns-clause-labels : goal.returns-clause-labels
returns-clause-labels c = subst (λ (es : List Event). KeepsLabels c.args.self.now es c.loop-place.self)
    (take_all c.loop-place.place c.args.events.now (omega arith))
    (keeps_labels (take c.loop-place.place c.args.events.now) c.args.self.now c.loop-place.self
    (subst IsLawful c.self.view_is c.self.invariant.0) c.loop-place.invariant)

pub returns-clause-closed : goal.returns-clause-closed
returns-clause-closed c = subst (λ (es : List Event). ClosedStayFrom c.args.self.now es c.loop-place.self)
    (take_all c.loop-place.place c.args.events.now (omega arith))
    (closed_from c.args.self.now (take c.loop-place.place c.args.events.now) c.loop-place.self c.loop-place.invariant)

pub returns-clause-run : goal.returns-clause-run
returns-clause-run c = subst (λ (es : List Event). run_of c.args.self.now es ≡ Some c.loop-place.self)
    (take_all c.loop-place.place c.args.events.now (omega arith)) c.loop-place.invariant
