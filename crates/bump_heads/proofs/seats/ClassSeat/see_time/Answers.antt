use Rattle.std.proofs.Common.{rules, None, refl, ◌∙◌, ◌++◌, ◌∷◌, []}
use Rattle.bump_steps.specs.Places.{rows}
use Rattle.bump_steps.specs.declared.views.Kind.TheVariants as kind
use Rattle.bump_steps.specs.Lives.{class_after_see_time}
use Rattle.bump_steps.specs.Plays.{step_of}
use Rattle.bump_heads.proofs.ClassSheets.{noted_sheet}
use Rattle.bump_heads.proofs.ClassSeats.{seat_kept}
use Rattle.bump_heads.proofs.Joining.{noted_joined}
use Rattle.bump_heads.proofs.seats.ClassSeat.see_time.Goals as goal

pub invariant_of-self : goal.invariant_of-self
invariant_of-self g c =
    let now = c.args.self.now in
    let step = step_of kind.SeeTime c.args.chunk c.see_time.result None in
    seat_kept c.self.inside.seat.me c.see_time.new.seat.me now (class_after_see_time c.args.chunk c.see_time.result)
    g.N.Name.table c.see_time.new.seat.table_id c.self.inside.class c.self.view_is
    c.self.invariant.0 c.see_time.ensures.told
    (c.see_time.ensures.same.0 ∙ c.self.invariant.1) c.self.invariant.2 c.self.invariant.3 c.self.invariant.4
    c.self.invariant.5 refl (λ o. noted_sheet (rows g.N.Name.table) now.sheet (now.sheet.steps ++ step ∷ []) o)
    (λ j o. noted_joined now.sheet step now.lane j o)

pub returns : goal.returns
returns g c = search rules
