use Rattle.std.proofs.Common.{rules, subst}
use Rattle.bump_rules.specs.Lawful.{Shows}
use Rattle.bump_heads.specs.Applying.{joined_after_move}
use Rattle.bump_heads.proofs.Seeing.{told_as, own_told, life_told, change_segment_chunk, may_change_segment, shifted_whole}
use Rattle.bump_heads.specs.Seats.{class_in}
use Rattle.bump_heads.proofs.seats.ClassSeat.change_segment.Goals as goal

pub invariant_of-self : goal.invariant_of-self
invariant_of-self g c = let t = shifted_whole g.N.Name.table c.self.inside.class c.args.chunk
    c.change_segment-word.result c.self.inside.seat.me c.change_segment-word.new.seat.me
    (class_in c.self.inside.seat.me.0) c.args.self.now c.self.invariant.0 (cc c.self.view_is) c.self.invariant.2
    c.self.invariant.3 c.self.invariant.4 c.self.invariant.5.0 c.self.invariant.5.1
    c.args.from c.args.to c.head_of.result c.head_of.ensures c.requires.own c.requires.stands c.requires.may
    c.change_segment-word.ensures.told.1.0 c.change_segment-word.ensures.told.1.1 in (
      t.0,
      cc (c.change_segment-word.ensures.same.0, c.self.invariant.1),
      t.1,
      t.2,
      t.3,
      (joined_after_move c.self.invariant.5.0, t.4),
    )

pub change_segment-word-requires-clause-may : goal.change_segment-word-requires-clause-may
change_segment-word-requires-clause-may g c = may_change_segment c.args.from c.args.to c.args.chunk
    c.self.inside.seat.me (class_in c.self.inside.seat.me.0) c.args.self.now c.self.invariant.5.0 c.self.invariant.0
    (cc c.self.view_is) c.self.invariant.5.1 c.requires.own c.requires.stands c.requires.may

pub returns-clause-shows : goal.returns-clause-shows
returns-clause-shows g c = subst (Shows c.head_of.result) c.requires.stands
    (own_told c.args.self.now c.args.chunk c.head_of.result c.requires.own
    (told_as c.self.inside.seat.me c.self.inside.seat.me (class_in c.self.inside.seat.me.0) c.args.self.now
    c.self.invariant.0 (cc c.self.view_is) c.change_segment-word.result c.args.chunk c.head_of.result
    c.head_of.ensures c.change_segment-word.ensures.told.1.1)).0

pub returns-clause-generation : goal.returns-clause-generation
returns-clause-generation g c =
    (own_told c.args.self.now c.args.chunk c.head_of.result c.requires.own
    (told_as c.self.inside.seat.me c.self.inside.seat.me (class_in c.self.inside.seat.me.0) c.args.self.now
    c.self.invariant.0 (cc c.self.view_is) c.change_segment-word.result c.args.chunk c.head_of.result
    c.head_of.ensures c.change_segment-word.ensures.told.1.1)).1

pub returns-clause-life : goal.returns-clause-life
returns-clause-life g c = life_told c.args.self.now c.args.chunk c.head_of.result
    (change_segment_chunk c.args.chunk c.args.from c.args.to c.args.self.now.lane c.requires.may)
    (told_as c.self.inside.seat.me c.self.inside.seat.me (class_in c.self.inside.seat.me.0) c.args.self.now
    c.self.invariant.0 (cc c.self.view_is) c.change_segment-word.result c.args.chunk c.head_of.result
    c.head_of.ensures c.change_segment-word.ensures.told.1.1)

pub returns-clause-moved : goal.returns-clause-moved
returns-clause-moved g c = search rules
