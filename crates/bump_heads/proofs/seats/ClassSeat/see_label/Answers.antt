use Rattle.std.proofs.Common.{rules, None, ◌∙◌, refl, ◌++◌, ◌∷◌, []}
use Rattle.bump_steps.specs.Places.{rows}
use Rattle.bump_steps.specs.declared.views.Kind.TheVariants as kind
use Rattle.bump_steps.specs.Sights.{class_after_see_label}
use Rattle.bump_steps.specs.Plays.{step_of}
use Rattle.bump_heads.proofs.ClassSheets.{noted_sheet}
use Rattle.bump_heads.proofs.ClassSeats.{seat_kept}
use Rattle.bump_heads.proofs.Joining.{noted_joined}
use Rattle.bump_heads.proofs.Stored.{found_last, found_of_life}
use Rattle.bump_heads.proofs.seats.ClassSeat.see_label.Goals as goal

pub invariant_of-self : goal.invariant_of-self
invariant_of-self g c =
    let now = c.args.self.now in
    let step = step_of kind.SeeLabel c.args.chunk c.see_label.result None in
    seat_kept c.self.inside.seat.me c.see_label.new.seat.me now (class_after_see_label c.args.chunk c.see_label.result)
    g.N.Name.table c.see_label.new.seat.table_id c.self.inside.class c.self.view_is
    c.self.invariant.0 c.see_label.ensures.told.0
    (c.see_label.ensures.same.0 ∙ c.self.invariant.1) c.self.invariant.2 c.self.invariant.3 c.self.invariant.4
    c.self.invariant.5 refl (λ o. noted_sheet (rows g.N.Name.table) now.sheet (now.sheet.steps ++ step ∷ []) o)
    (λ j o. noted_joined now.sheet step now.lane j o)

pub returns-clause-seen : goal.returns-clause-seen
returns-clause-seen g c = search rules

pub returns-clause-stored : goal.returns-clause-stored
returns-clause-stored g c = found_last 0 c.args.chunk c.see_label.result (rows g.N.Name.table) c.self.inside.seat.me
    c.args.self.now c.self.view_is c.self.invariant.0 c.requires.own c.see_label.ensures.told.1

pub returns-clause-life : goal.returns-clause-life
returns-clause-life g c = found_of_life 0 c.args.chunk c.see_label.result (rows g.N.Name.table) c.self.inside.seat.me
    c.args.self.now c.self.view_is c.self.invariant.0 c.requires.own c.see_label.ensures.told.1 c.self.invariant.4
