use Rattle.std.proofs.Common.{◌≡◌, true, refl, sym, ap, ◌∙◌, subst}
use Rattle.bump_rules.specs.declared.history.Change.TheVariants as change
use Rattle.bump_rules.specs.History.{Standing}
use Rattle.bump_rules.specs.Lists.{to_front}
use Rattle.bump_rules.specs.Lawful.{Shows}
use Rattle.bump_rules.specs.Lives.{life}
use Rattle.bump_heads.specs.declared.views.ClassView.{ClassView}
use Rattle.bump_heads.specs.Linking.{place_of_chunk, generation_of_chunk}
use Rattle.bump_steps.specs.Views.{owns, standing}
use Rattle.bump_class.specs.Books.{BookView}
use Rattle.bump_class.specs.Ends.{book_after_end, place_behind}
use Rattle.bump_class.proofs.EndLemmas.{after_end, ended_kept}
use Rattle.bump_class.proofs.Keeping.{listed_seen, stands_after}
use Rattle.bump_class.proofs.books.Book.end_item.Goals as goal

pub seen_unheld-behind-requires-clause-dying : goal.seen_unheld-behind-requires-clause-dying
seen_unheld-behind-requires-clause-dying g c =
    let k = c.self.inside.seat.sheet in
    let e = change.Unlinked (life c.args.chunk (standing k c.args.chunk).1) in
    ap (λ (s : ClassView). place_of_chunk s.sheet c.args.chunk) c.end_life-last.ensures.ended
    ∙ ap (λ (s : Standing). s.0) (stands_after k e c.args.chunk refl)

pub to_front-requires : goal.to_front-requires
to_front-requires g c = listed_seen _ _ c.args.chunk c.self.view_is c.self.invariant.3 c.requires.own

pub invariant_of-self : goal.invariant_of-self
invariant_of-self g c =
    let i = c.self.inside in
    let own = subst (λ (x : BookView). owns c.args.chunk x.sheet ≡ true) (sym c.self.view_is) c.requires.own in
    ended_kept i.seat c.end_life-last.new.self c.seen_unheld-behind.new.self i.first i.end i.hot_limit i.warm_limit i.workers
    i.moved.items i.lists c.to_front.new.self c.args.chunk c.end_life-last.result c.seen_unheld-behind.result c.self.invariant own
    c.end_life-last.ensures.ended c.seen_unheld-behind.ensures.seen c.seen_unheld-behind.ensures.generation
    (c.to_front.ensures ∙ ap (λ p. to_front c.args.chunk p i.lists) (c.place_behind.ensures
    ∙ ap (λ e. place_behind e (life c.args.chunk c.seen_unheld-behind.result.generation)) c.ended-ended.ensures))

pub returns : goal.returns
returns g c =
    let i = c.self.inside in
    let chunk = c.args.chunk in
    let last = c.end_life-last.result in
    let behind = c.seen_unheld-behind.result in
    let e = change.Unlinked (life chunk (standing i.seat.sheet chunk).1) in
    let stood = ap (λ (s : ClassView). generation_of_chunk s.sheet chunk) c.end_life-last.ensures.ended
    ∙ ap (λ (s : Standing). s.1) (stands_after i.seat.sheet e chunk refl) in
    let to = c.to_front.ensures ∙ ap (λ p. to_front chunk p i.lists) (c.place_behind.ensures
    ∙ ap (λ d. place_behind d (life chunk behind.generation)) c.ended-ended.ensures) in (
      behind,
      record {
        last_fits = c.end_life-last.ensures.fits;
        behind_fits = c.seen_unheld-behind.ensures.fits;
        shows = subst (λ (b : BookView). Shows last (place_of_chunk b.sheet chunk)) c.self.view_is
            c.end_life-last.ensures.agrees;
        generation = c.end_life-last.ensures.generation
            ∙ ap (λ (b : BookView). generation_of_chunk b.sheet chunk) c.self.view_is;
        counted = c.end_life-last.ensures.counted;
        unlinked = c.seen_unheld-behind.ensures.unlinked;
        same = c.seen_unheld-behind.ensures.generation ∙ stood ∙ sym c.end_life-last.ensures.generation;
        ended = c.ended-ended.ensures;
        after = after_end i.seat c.end_life-last.new.self c.seen_unheld-behind.new.self i.hot_limit i.warm_limit i.workers
            i.lists c.to_front.new.self chunk last behind c.end_life-last.ensures.ended c.seen_unheld-behind.ensures.seen
            c.seen_unheld-behind.ensures.generation to ∙ ap (book_after_end chunk last behind) c.self.view_is;
      },
    )
