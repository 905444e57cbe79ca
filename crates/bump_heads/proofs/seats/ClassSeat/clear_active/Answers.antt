use Rattle.std.proofs.Common.{ap, ◌∙◌}
use Rattle.bump_heads.proofs.Seeing.{cleared_whole, told_as, own_told, life_told, clear_active_chunk}
use Rattle.bump_heads.specs.Seats.{class_in, class_me}
use Rattle.bump_heads.proofs.ClassSeats.{owns_here}
use Rattle.bump_steps.specs.Views.{standing}
use Rattle.bump_heads.proofs.seats.ClassSeat.clear_active.Goals as goal

pub invariant_of-self : goal.invariant_of-self
invariant_of-self g c =
    let t = cleared_whole g.N.Name.table c.self.inside.class c.args.chunk c.clear_active-word.result
    c.self.inside.seat.me c.clear_active-word.new.seat.me (class_in c.self.inside.seat.me.0) c.args.self.now
    c.self.invariant.0 (cc c.self.view_is) c.self.invariant.2 c.self.invariant.3 c.self.invariant.4
    c.self.invariant.5.0 c.self.invariant.5.1 c.head_of.result c.head_of.ensures c.requires.may
    c.clear_active-word.ensures.told.1 in
    (t.0, c.clear_active-word.ensures.same.0 ∙ c.self.invariant.1, t.1, t.2, t.3, (c.self.invariant.5.0, t.4))

pub returns-clause-shows : goal.returns-clause-shows
returns-clause-shows g c =
    (own_told c.args.self.now c.args.chunk c.head_of.result c.requires.own
    (told_as c.self.inside.seat.me c.self.inside.seat.me (class_in c.self.inside.seat.me.0) c.args.self.now
    c.self.invariant.0 (cc c.self.view_is) c.clear_active-word.result c.args.chunk c.head_of.result
    c.head_of.ensures c.clear_active-word.ensures.told.2)).0

pub returns-clause-generation : goal.returns-clause-generation
returns-clause-generation g c =
    (own_told c.args.self.now c.args.chunk c.head_of.result c.requires.own
    (told_as c.self.inside.seat.me c.self.inside.seat.me (class_in c.self.inside.seat.me.0) c.args.self.now
    c.self.invariant.0 (cc c.self.view_is) c.clear_active-word.result c.args.chunk c.head_of.result
    c.head_of.ensures c.clear_active-word.ensures.told.2)).1

pub returns-clause-life : goal.returns-clause-life
returns-clause-life g c = life_told c.args.self.now c.args.chunk c.head_of.result
    (clear_active_chunk c.args.chunk (standing c.args.self.now.sheet c.args.chunk).0 c.args.self.now.lane
    c.requires.may) (told_as c.self.inside.seat.me c.self.inside.seat.me (class_in c.self.inside.seat.me.0)
    c.args.self.now c.self.invariant.0 (cc c.self.view_is) c.clear_active-word.result c.args.chunk
    c.head_of.result c.head_of.ensures c.clear_active-word.ensures.told.2)

pub clear_active-word-requires-clause-own : goal.clear_active-word-requires-clause-own
clear_active-word-requires-clause-own g c = owns_here c.self.inside.seat.me c.args.self.now c.args.chunk
    (c.self.invariant.0 ∙ ap class_me c.self.view_is) c.requires.own
