use Rattle.std.proofs.Common.{rules, suc, ap, ◌∙◌}
use Rattle.bump_steps.specs.Places.{rows}
use Rattle.bump_readers.specs.declared.views.HoldView.{HoldView}
use Rattle.bump_heads.specs.Seats.{class_in}
use Rattle.bump_heads.proofs.MeetingHolds.{part_of_whole, met_stored, met_words, met_read, met_last}
use Rattle.bump_heads.proofs.seats.ClassSeat.meet.Goals as goal

pub returns-clause-label : goal.returns-clause-label
returns-clause-label g c = search rules

pub returns-clause-stored : goal.returns-clause-stored
returns-clause-stored g c = let p = part_of_whole c.args.hold.now.sheet c.requires.whole in
    let class = c.self.invariant.0 in
    let held = c.life.ensures ∙ ap (λ (x : HoldView). x.life) c.seat_out.ensures.hollow in
    met_stored c.self.inside.seat.me c.seat_out.result.me c.join.new.seat.me (class_in c.self.inside.seat.me.0) c.args.self.now
    c.args.hold.now.sheet c.args.hold.now.life c.life.result c.meet-label.result (rows g.N.Name.table) p.0 class
    c.self.view_is c.seat_out.ensures.seat.0 p.1 c.seat_out.ensures.life held c.join.ensures.joined c.self.invariant.4
    c.requires.own (c.meet-label.ensures.told.1)

pub returns-clause-words : goal.returns-clause-words
returns-clause-words g c = let p = part_of_whole c.args.hold.now.sheet c.requires.whole in
    let class = c.self.invariant.0 in
    let held = c.life.ensures ∙ ap (λ (x : HoldView). x.life) c.seat_out.ensures.hollow in
    met_words c.self.inside.seat.me c.seat_out.result.me c.join.new.seat.me (class_in c.self.inside.seat.me.0) c.args.self.now
    c.args.hold.now.sheet c.args.hold.now.life c.life.result c.meet-label.result (rows g.N.Name.table) p.0 class
    c.self.view_is c.seat_out.ensures.seat.0 p.1 c.seat_out.ensures.life held c.join.ensures.joined c.self.invariant.4
    c.requires.own (c.meet-label.ensures.told.1)

pub returns-clause-read : goal.returns-clause-read
returns-clause-read g c = let p = part_of_whole c.args.hold.now.sheet c.requires.whole in
    let class = c.self.invariant.0 in
    let held = c.life.ensures ∙ ap (λ (x : HoldView). x.life) c.seat_out.ensures.hollow in
    met_read c.self.inside.seat.me c.seat_out.result.me c.join.new.seat.me (class_in c.self.inside.seat.me.0) c.args.self.now
    c.args.hold.now.sheet c.args.hold.now.life c.life.result c.meet-label.result (rows g.N.Name.table) p.0 class
    c.self.view_is c.seat_out.ensures.seat.0 p.1 c.seat_out.ensures.life held c.join.ensures.joined c.self.invariant.4
    c.requires.own (c.meet-label.ensures.told.1)

pub returns-clause-last : goal.returns-clause-last
returns-clause-last g c j = let p = part_of_whole c.args.hold.now.sheet c.requires.whole in
    let class = c.self.invariant.0 in
    let held = c.life.ensures ∙ ap (λ (x : HoldView). x.life) c.seat_out.ensures.hollow in
    met_last c.self.inside.seat.me c.seat_out.result.me c.join.new.seat.me (class_in c.self.inside.seat.me.0) c.args.self.now
    c.args.hold.now.sheet c.args.hold.now.life c.life.result c.meet-label.result (rows g.N.Name.table) p.0 class
    c.self.view_is c.seat_out.ensures.seat.0 p.1 c.seat_out.ensures.life held c.join.ensures.joined c.self.invariant.4
    c.requires.own (c.meet-label.ensures.told.1) (suc j)
