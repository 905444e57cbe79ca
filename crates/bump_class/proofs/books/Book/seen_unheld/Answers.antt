use Rattle.std.proofs.Common.{◌≡◌, true, sym, ap, ap₂, subst, ◌∙◌}
use Rattle.bump_rules.specs.declared.items.ItemId.{ItemId}
use Rattle.bump_rules.specs.History.{subject, target, freed_change}
use Rattle.bump_rules.specs.Lives.{life}
use Rattle.bump_word.specs.Words.{word_of}
use Rattle.bump_steps.specs.declared.views.ClassSheet.{ClassSheet}
use Rattle.bump_steps.specs.Applications.{life_in}
use Rattle.bump_rules.specs.Lists.{to_front}
use Rattle.bump_steps.specs.Lives.{class_after_sweep_or_load}
use Rattle.bump_steps.specs.Views.{owns}
use Rattle.bump_class.specs.Books.{BookView}
use Rattle.bump_steps.proofs.Entering.{freed_subject, freed_quiet}
use Rattle.bump_class.proofs.Keeping.{entered, listed_seen, sweep_where_unheld}
use Rattle.bump_class.proofs.books.Book.seen_unheld.Goals as goal

pub to_front-requires : goal.to_front-requires
to_front-requires g c = listed_seen _ _ c.args.chunk c.self.view_is c.self.invariant.3 c.requires.own

pub invariant_of-self : goal.invariant_of-self
invariant_of-self g c =
    let i = c.self.inside in
    let h = c.seen_unheld-head.result in
    let own = subst (λ (x : BookView). owns c.args.chunk x.sheet ≡ true) (sym c.self.view_is) c.requires.own in
    let l = life_in i.seat.sheet c.args.chunk in
    let of : (subject (freed_change l)).chunk ≡ c.args.chunk = ap (λ (m : ItemId). m.chunk) (freed_subject l) in
    let same : life c.args.chunk h.generation ≡ l = ap (life c.args.chunk) (c.seen_unheld-head.ensures.generation) in
    let place = c.place.ensures ∙ ap target (c.freed.ensures ∙ ap freed_change same) in
    entered i.seat c.seen_unheld-head.new.self i.first i.end i.hot_limit i.warm_limit i.workers i.moved.items i.lists c.to_front.new.self
    (freed_change l) _ _ _ c.self.invariant
    (◌∙◌ {b = record i.seat { sheet = class_after_sweep_or_load c.args.chunk h.refs (word_of h) i.seat.sheet }}
    c.seen_unheld-head.ensures.seen
    (ap (λ (k : ClassSheet). record i.seat { sheet = k })
    (sweep_where_unheld c.args.chunk h.refs (word_of h) i.seat.sheet c.if-head-eq0.true)))
    (◌∙◌ {b = to_front c.args.chunk c.place.result i.lists} c.to_front.ensures
    (ap₂ (λ d p. to_front d p i.lists) (sym of) place)) (ap (λ d. owns d i.seat.sheet) of ∙ own)
    (freed_quiet l)
