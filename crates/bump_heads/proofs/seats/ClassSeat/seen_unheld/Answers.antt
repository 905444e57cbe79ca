use Rattle.std.proofs.Common.{ℕ, ◌%◌, ◌^◌, ap, ap₂, ◌∙◌, subst}
use Rattle.bump_steps.specs.Places.{rows}
use Rattle.bump_rules.specs.declared.places.Place.{Place}
use Rattle.bump_rules.specs.Lawful.{Shows}
use Rattle.bump_word.specs.Layout.{refs_width}
use Rattle.bump_word.proofs.Words.{fields}
use Rattle.bump_steps.specs.Lives.{class_after_sweep_or_load}
use Rattle.bump_heads.specs.Seats.{class_me}
use Rattle.bump_heads.proofs.ClassLives.{keeps_sweep_or_load, number_kept, naming_kept}
use Rattle.bump_heads.proofs.Joining.{alone_joined}
use Rattle.bump_heads.proofs.ClassSeats.{view_after, seat_kept, finds}
use Rattle.bump_heads.proofs.seats.ClassSeat.seen_unheld.Goals as goal

pub invariant_of-self : goal.invariant_of-self
invariant_of-self g c = seat_kept c.self.inside.seat.me c.seen_unheld.new.seat.me c.args.self.now
    (class_after_sweep_or_load c.args.chunk (c.seen_unheld.result % 2 ^ refs_width) c.seen_unheld.result)
    g.N.Name.table c.seen_unheld.new.seat.table_id c.self.inside.class c.self.view_is
    c.self.invariant.0 c.seen_unheld.ensures.told.0 (c.seen_unheld.ensures.same.0 ∙ c.self.invariant.1)
    c.self.invariant.2 c.self.invariant.3 c.self.invariant.4 c.self.invariant.5
    (number_kept c.args.chunk (c.seen_unheld.result % 2 ^ refs_width) c.seen_unheld.result c.args.self.now.sheet)
    (λ o. keeps_sweep_or_load (rows g.N.Name.table) c.args.self.now.sheet o c.args.chunk
    (c.seen_unheld.result % 2 ^ refs_width) c.seen_unheld.result c.requires.own)
    (λ j o. alone_joined c.args.self.now.sheet
    (class_after_sweep_or_load c.args.chunk (c.seen_unheld.result % 2 ^ refs_width) c.seen_unheld.result
    c.args.self.now.sheet) c.args.self.now.lane j c.requires.alone (naming_kept c.args.chunk (c.seen_unheld.result % 2 ^ refs_width) c.seen_unheld.result
    c.args.self.now.sheet) o)

pub returns-clause-unlinked : goal.returns-clause-unlinked
returns-clause-unlinked g c = subst (λ (p : Place). Shows c.head_of.result p) c.requires.dying
    (finds c.args.chunk c.seen_unheld.result c.self.inside.seat.me c.args.self.now c.head_of.result c.self.view_is
    c.self.invariant.0 c.requires.own c.head_of.ensures c.seen_unheld.ensures.told.1).0

pub returns-clause-generation : goal.returns-clause-generation
returns-clause-generation g c =
    (finds c.args.chunk c.seen_unheld.result c.self.inside.seat.me c.args.self.now c.head_of.result c.self.view_is
    c.self.invariant.0 c.requires.own c.head_of.ensures c.seen_unheld.ensures.told.1).1

-- the class's view after the sweep, by the head that the word spells
pub returns-clause-seen : goal.returns-clause-seen
returns-clause-seen g c =
    let n = c.seen_unheld.result in
    let now = c.args.self.now in
    view_after c.self.inside.seat.me c.seen_unheld.new.seat.me now
    (class_after_sweep_or_load c.args.chunk (n % 2 ^ refs_width) n)
    (c.self.invariant.0 ∙ ap class_me c.self.view_is) c.seen_unheld.ensures.told.0
    ∙ ap₂ (λ (refs word : ℕ). record now { sheet = class_after_sweep_or_load c.args.chunk refs word now.sheet })
    (fields n c.head_of.result c.head_of.ensures).refs c.head_of.ensures.0
