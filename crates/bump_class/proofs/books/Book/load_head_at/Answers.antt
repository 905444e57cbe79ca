use Rattle.std.proofs.Common.{◌≡◌, true, sym, ap, ◌∙◌, subst}
use Rattle.bump_steps.specs.Views.{owns}
use Rattle.bump_class.specs.Books.{BookView}
use Rattle.bump_class.specs.Ends.{is_in_segment}
use Rattle.bump_class.proofs.Refusing.{linked_lists}
use Rattle.bump_class.proofs.books.Book.load_head_at.Goals as goal

pub returns-clause-listed : goal.returns-clause-listed
returns-clause-listed g c =
    let i = c.self.inside in
    let b : BookView = record {
      sheet = i.seat.sheet;
      lists = i.lists;
      hot_limit = i.hot_limit;
      warm_limit = i.warm_limit;
      workers = i.workers;
    } in
    let own = subst (λ (x : BookView). owns c.args.chunk x.sheet ≡ true) (sym c.self.view_is) c.requires.own in
    ap (λ (x : BookView). is_in_segment c.args.chunk x.lists) (sym c.self.view_is)
    ∙ linked_lists b c.args.chunk c.load_head.result c.self.invariant.3 own c.load_head.ensures.agrees
