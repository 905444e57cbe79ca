use Rattle.std.proofs.Common.{rules, None, refl, ◌∙◌, ◌++◌, ◌∷◌, []}
use Rattle.bump_steps.specs.Places.{rows}
use Rattle.bump_steps.specs.declared.views.Kind.TheVariants as kind
use Rattle.bump_steps.specs.Meetings.{class_after_meet}
use Rattle.bump_steps.specs.Plays.{step_of}
use Rattle.bump_heads.specs.Seats.{class_in}
use Rattle.bump_heads.proofs.ClassSheets.{noted_sheet}
use Rattle.bump_heads.proofs.ClassSeats.{seat_kept}
use Rattle.bump_heads.proofs.Joining.{noted_joined}
use Rattle.bump_heads.proofs.Seeing.{met_workers, met_once}
use Rattle.bump_heads.proofs.seats.ClassSeat.meet_workers.Goals as goal

pub invariant_of-self : goal.invariant_of-self
invariant_of-self g c =
    let now = c.args.self.now in
    let step = step_of kind.Meet 0 0 None in
    seat_kept c.self.inside.seat.me c.meet_workers.new.seat.me now class_after_meet
    g.N.Name.table c.meet_workers.new.seat.table_id c.self.inside.class c.self.view_is
    c.self.invariant.0 c.meet_workers.ensures.noted
    (c.meet_workers.ensures.same.0 ∙ c.self.invariant.1) c.self.invariant.2 c.self.invariant.3 c.self.invariant.4
    c.self.invariant.5 refl (λ o. noted_sheet (rows g.N.Name.table) now.sheet (now.sheet.steps ++ step ∷ []) o)
    (λ j o. noted_joined now.sheet step now.lane j o)

pub returns-clause-class : goal.returns-clause-class
returns-clause-class g c = search rules

pub returns-clause-workers : goal.returns-clause-workers
returns-clause-workers g c = met_workers c.self.inside.seat.me (class_in c.self.inside.seat.me.0) c.args.self.now
    c.self.invariant.0 c.self.view_is c.args.heads.now.workers (search rules)

pub returns-clause-once : goal.returns-clause-once
returns-clause-once g c = met_once c.self.inside.seat.me (class_in c.self.inside.seat.me.0) c.args.self.now
    c.self.invariant.0 c.self.view_is c.meet_workers.ensures.told.1
