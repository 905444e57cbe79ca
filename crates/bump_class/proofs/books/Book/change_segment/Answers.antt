use Rattle.std.proofs.Common.{◌∙◌, ◌≡◌, true, refl, sym, ap, subst}
use Rattle.bump_rules.specs.declared.history.Change.TheVariants as change
use Rattle.bump_rules.specs.declared.history.Cause.TheVariants as cause
use Rattle.bump_rules.specs.Lists.{to_front}
use Rattle.bump_steps.specs.Applications.{life_in}
use Rattle.bump_heads.specs.Applying.{seat_after_move}
use Rattle.bump_steps.specs.Views.{owns}
use Rattle.bump_class.specs.Books.{BookView}
use Rattle.bump_class.proofs.Keeping.{entered, listed_seen, move_alone}
use Rattle.bump_class.proofs.books.Book.change_segment.Goals as goal

pub to_front-requires : goal.to_front-requires
to_front-requires g c = listed_seen _ _ c.args.chunk c.self.view_is c.self.invariant.3 c.requires.own

pub invariant_of-self : goal.invariant_of-self
invariant_of-self g c =
    let i = c.self.inside in
    let own = subst (λ (x : BookView). owns c.args.chunk x.sheet ≡ true) (sym c.self.view_is) c.requires.own in
    let none = c.self.invariant.0 in
    let e = change.Moved (life_in i.seat.sheet c.args.chunk) c.args.from c.args.to cause.Pull in
    entered i.seat c.change_segment-head.new.self i.first i.end i.hot_limit i.warm_limit i.workers i.moved.items i.lists c.to_front.new.self e
    _ _ _ c.self.invariant
    (◌∙◌ {b = seat_after_move c.args.chunk c.args.from c.args.to c.change_segment-head.result i.seat}
    c.change_segment-head.ensures.moved
    (move_alone i.seat c.args.chunk c.args.from c.args.to c.change_segment-head.result none))
    (◌∙◌ {b = to_front c.args.chunk c.place.result i.lists} c.to_front.ensures
    (ap (λ p. to_front c.args.chunk p i.lists) c.place.ensures)) own refl
