use Rattle.std.proofs.Common.{rules, ◌≤◌, refl, ap, ◌∙◌, arith}
use Rattle.bump_steps.specs.Places.{rows}
use Rattle.bump_rules.specs.Lawful.{bit}
use Rattle.bump_steps.specs.Plays.{Told}
use Rattle.bump_steps.specs.Views.{standing}
use Rattle.bump_steps.specs.Lives.{class_after_unlink}
use Rattle.bump_steps.proofs.Entering.{linked_in_segment}
use Rattle.bump_heads.proofs.ClassLives.{keeps_unlink}
use Rattle.bump_heads.proofs.Joining.{alone_joined}
use Rattle.bump_heads.proofs.ClassSeats.{seat_kept, found_is, agrees}
use Rattle.bump_heads.proofs.seats.ClassSeat.end_life.Goals as goal

pub invariant_of-self : goal.invariant_of-self
invariant_of-self g c = seat_kept c.self.inside.seat.me c.end_life.new.seat.me c.args.self.now
    (class_after_unlink c.args.chunk c.end_life.result) g.N.Name.table c.end_life.new.seat.table_id
    c.self.inside.class c.self.view_is c.self.invariant.0 c.end_life.ensures.told.0
    (c.end_life.ensures.same.0 ∙ c.self.invariant.1) c.self.invariant.2 c.self.invariant.3 c.self.invariant.4
    c.self.invariant.5 refl (λ o. keeps_unlink (rows g.N.Name.table) c.args.self.now.sheet o c.args.chunk
    c.end_life.result c.requires.own c.requires.linked)
    (λ j o. alone_joined c.args.self.now.sheet (class_after_unlink c.args.chunk c.end_life.result c.args.self.now.sheet)
    c.args.self.now.lane j c.requires.alone refl o)

pub returns-clause-agrees : goal.returns-clause-agrees
returns-clause-agrees g c =
    (let h = c.head_of.result in let told = found_is c.end_life.result
    (λ x. Told c.args.chunk c.self.inside.seat.me.0 x × (bit x.linked ≤ x.refs)) h c.head_of.ensures
    c.end_life.ensures.told.1 in agrees c.args.chunk c.self.inside.seat.me c.args.self.now h c.self.view_is
    c.self.invariant.0 c.requires.own told.0).0

pub returns-clause-generation : goal.returns-clause-generation
returns-clause-generation g c =
    (let h = c.head_of.result in let told = found_is c.end_life.result
    (λ x. Told c.args.chunk c.self.inside.seat.me.0 x × (bit x.linked ≤ x.refs)) h c.head_of.ensures
    c.end_life.ensures.told.1 in agrees c.args.chunk c.self.inside.seat.me c.args.self.now h c.self.view_is
    c.self.invariant.0 c.requires.own told.0).1

pub returns-clause-counted : goal.returns-clause-counted
returns-clause-counted g c = let h = c.head_of.result in let told = found_is c.end_life.result
    (λ x. Told c.args.chunk c.self.inside.seat.me.0 x × (bit x.linked ≤ x.refs)) h c.head_of.ensures
    c.end_life.ensures.told.1 in let on = linked_in_segment h (standing c.args.self.now.sheet c.args.chunk).0
    (agrees c.args.chunk c.self.inside.seat.me c.args.self.now h c.self.view_is c.self.invariant.0 c.requires.own
    told.0).0 c.requires.linked in omega (arith, ap bit on, told.1)

pub returns-clause-ended : goal.returns-clause-ended
returns-clause-ended g c = search rules

pub returns-clause-marks : goal.returns-clause-marks
returns-clause-marks g c = search rules
