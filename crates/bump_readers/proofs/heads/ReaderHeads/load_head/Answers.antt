use Rattle.std.proofs.Common.{rules, subst, ap, ◌∙◌}
use Rattle.bump_rules.specs.declared.items.ItemId.{ItemId}
use Rattle.bump_readers.specs.declared.views.HoldView.{HoldView}
use Rattle.bump_steps.specs.Plays.{Found, Told}
use Rattle.bump_readers.proofs.HeldHeads.{held_found}
use Rattle.bump_readers.proofs.heads.ReaderHeads.load_head.Goals as goal

pub returns-clause-looked : goal.returns-clause-looked
returns-clause-looked g c = search (rules, c.head_of-head.ensures.0)

pub returns-clause-generation : goal.returns-clause-generation
returns-clause-generation g c = let s = c.seat_out-seat in
    (held_found c.args.hold.now s.result.me c.load_of_hold.result c.head_of-head.result s.ensures.seat.0 s.ensures.life
    c.requires.whole (subst (λ (l : ItemId). Found c.load_of_hold.result (Told l.chunk s.result.me.0))
    (ap (λ (v : HoldView). v.life) (c.hold.view_is ∙ s.ensures.hollow)) c.load_of_hold.ensures.told.1)
    c.head_of-head.ensures).0

pub returns-clause-counted : goal.returns-clause-counted
returns-clause-counted g c = let s = c.seat_out-seat in
    (held_found c.args.hold.now s.result.me c.load_of_hold.result c.head_of-head.result s.ensures.seat.0 s.ensures.life
    c.requires.whole (subst (λ (l : ItemId). Found c.load_of_hold.result (Told l.chunk s.result.me.0))
    (ap (λ (v : HoldView). v.life) (c.hold.view_is ∙ s.ensures.hollow)) c.load_of_hold.ensures.told.1)
    c.head_of-head.ensures).1
