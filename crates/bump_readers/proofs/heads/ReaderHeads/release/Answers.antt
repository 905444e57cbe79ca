use Rattle.std.proofs.Common.{◌∙◌, subst, ap}
use Rattle.bump_rules.specs.declared.items.ItemId.{ItemId}
use Rattle.bump_readers.specs.declared.views.HoldView.{HoldView}
use Rattle.bump_steps.specs.Plays.{Found, Told}
use Rattle.bump_readers.proofs.HeldHeads.{held_found, spent_is}
use Rattle.bump_readers.proofs.heads.ReaderHeads.release.Goals as goal

pub returns-clause-generation : goal.returns-clause-generation
returns-clause-generation g c = let s = c.seat_out-seat in
    (held_found c.args.hold.now s.result.me c.give_back.result c.head_of-head.result s.ensures.seat.0 s.ensures.life
    c.requires.whole (subst (λ (l : ItemId). Found c.give_back.result (Told l.chunk s.result.me.0))
    (ap (λ (v : HoldView). v.life) (c.hold.view_is ∙ s.ensures.hollow)) c.give_back.ensures.told.1)
    c.head_of-head.ensures).0

pub returns-clause-counted : goal.returns-clause-counted
returns-clause-counted g c = let s = c.seat_out-seat in
    (held_found c.args.hold.now s.result.me c.give_back.result c.head_of-head.result s.ensures.seat.0 s.ensures.life
    c.requires.whole (subst (λ (l : ItemId). Found c.give_back.result (Told l.chunk s.result.me.0))
    (ap (λ (v : HoldView). v.life) (c.hold.view_is ∙ s.ensures.hollow)) c.give_back.ensures.told.1)
    c.head_of-head.ensures).1

pub returns-clause-spent : goal.returns-clause-spent
returns-clause-spent g c = let s = c.seat_out-seat in spent_is c.args.hold.now s.result.me c.give_back.new.seat.me
    c.give_back.result c.head_of-head.result s.ensures.seat.0 s.ensures.life c.requires.whole
    c.give_back.ensures.told.0 c.head_of-head.ensures
