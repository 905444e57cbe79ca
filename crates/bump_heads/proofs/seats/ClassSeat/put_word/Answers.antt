use Rattle.std.proofs.Common.{rules, refl, ◌∙◌}
use Rattle.bump_steps.specs.Places.{rows}
use Rattle.bump_steps.specs.Lives.{class_after_put_word}
use Rattle.bump_heads.proofs.ClassLives.{keeps_put_word}
use Rattle.bump_heads.proofs.Joining.{alone_joined}
use Rattle.bump_heads.proofs.ClassSeats.{seat_kept}
use Rattle.bump_heads.proofs.seats.ClassSeat.put_word.Goals as goal

pub invariant_of-self : goal.invariant_of-self
invariant_of-self g c = seat_kept c.self.inside.seat.me c.put_word.new.seat.me c.args.self.now
    (class_after_put_word c.args.chunk c.args.index c.args.word) g.N.Name.table c.put_word.new.seat.table_id c.self.inside.class
    c.self.view_is c.self.invariant.0 c.put_word.ensures.told
    (c.put_word.ensures.same.0 ∙ c.self.invariant.1) c.self.invariant.2 c.self.invariant.3 c.self.invariant.4
    c.self.invariant.5 refl (λ o. keeps_put_word (rows g.N.Name.table) c.args.self.now.sheet o c.args.chunk
    c.args.index c.args.word c.requires.unused)
    (λ j o. alone_joined c.args.self.now.sheet (class_after_put_word c.args.chunk c.args.index c.args.word c.args.self.now.sheet)
    c.args.self.now.lane j c.requires.alone refl o)

pub returns : goal.returns
returns g c = search rules

pub put_word-requires-clause-may : goal.put_word-requires-clause-may
put_word-requires-clause-may g c = search rules
