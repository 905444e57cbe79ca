use Rattle.std.proofs.Common.{rules, None, refl, ◌∙◌, ◌++◌, ◌∷◌, []}
use Rattle.bump_steps.specs.Places.{rows}
use Rattle.bump_steps.specs.declared.views.Kind.TheVariants as kind
use Rattle.bump_steps.specs.Lives.{class_after_load}
use Rattle.bump_steps.specs.Plays.{step_of}
use Rattle.bump_heads.proofs.ClassSheets.{noted_sheet}
use Rattle.bump_heads.proofs.ClassSeats.{finds, seat_kept}
use Rattle.bump_heads.proofs.Joining.{noted_joined}
use Rattle.bump_heads.proofs.seats.ClassSeat.load_head.Goals as goal

pub invariant_of-self : goal.invariant_of-self
invariant_of-self g c =
    let now = c.args.self.now in
    let step = step_of kind.Load c.args.chunk c.load_head.result None in
    seat_kept c.self.inside.seat.me c.load_head.new.seat.me now (class_after_load c.args.chunk c.load_head.result)
    g.N.Name.table c.load_head.new.seat.table_id c.self.inside.class c.self.view_is
    c.self.invariant.0 c.load_head.ensures.told.0
    (c.load_head.ensures.same.0 ∙ c.self.invariant.1) c.self.invariant.2 c.self.invariant.3 c.self.invariant.4
    c.self.invariant.5 refl (λ o. noted_sheet (rows g.N.Name.table) now.sheet (now.sheet.steps ++ step ∷ []) o)
    (λ j o. noted_joined now.sheet step now.lane j o)

pub returns-clause-agrees : goal.returns-clause-agrees
returns-clause-agrees g c =
    (finds c.args.chunk c.load_head.result c.self.inside.seat.me c.args.self.now c.head_of.result c.self.view_is
    c.self.invariant.0 c.requires.own c.head_of.ensures c.load_head.ensures.told.1).0

pub returns-clause-generation : goal.returns-clause-generation
returns-clause-generation g c =
    (finds c.args.chunk c.load_head.result c.self.inside.seat.me c.args.self.now c.head_of.result c.self.view_is
    c.self.invariant.0 c.requires.own c.head_of.ensures c.load_head.ensures.told.1).1

pub returns-clause-looked : goal.returns-clause-looked
returns-clause-looked g c = search rules
