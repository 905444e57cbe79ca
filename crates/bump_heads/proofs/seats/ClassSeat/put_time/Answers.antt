use Rattle.std.proofs.Common.{rules, ap, ◌∙◌}
use Rattle.bump_heads.proofs.Seeing.{timed_whole}
use Rattle.bump_heads.specs.Seats.{class_in, class_me}
use Rattle.bump_heads.proofs.ClassSeats.{owns_here}
use Rattle.bump_heads.proofs.seats.ClassSeat.put_time.Goals as goal

pub invariant_of-self : goal.invariant_of-self
invariant_of-self g c =
    let t = timed_whole g.N.Name.table c.self.inside.class c.args.chunk 0 c.self.inside.seat.me c.put_time.new.seat.me
    (class_in c.self.inside.seat.me.0) c.args.self.now c.self.invariant.0 (cc c.self.view_is) c.self.invariant.2
    c.self.invariant.3 c.self.invariant.4 c.self.invariant.5.0 c.self.invariant.5.1
    c.args.now c.put_time.ensures.told in
    (t.0, c.put_time.ensures.same.0 ∙ c.self.invariant.1, t.1, t.2, t.3, (c.self.invariant.5.0, t.4))

pub returns : goal.returns
returns g c = search rules

pub put_time-requires-clause-own : goal.put_time-requires-clause-own
put_time-requires-clause-own g c = owns_here c.self.inside.seat.me c.args.self.now c.args.chunk
    (c.self.invariant.0 ∙ ap class_me c.self.view_is) c.requires.own
