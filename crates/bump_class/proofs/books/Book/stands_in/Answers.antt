use Rattle.std.proofs.Common.{sym, ◌∙◌}
use Rattle.std.proofs.lemmas.Bool.{ltb-true}
use Rattle.bump_links.specs.Lists.{times}
use Rattle.bump_rules.specs.Lists.{list_at}
use Rattle.bump_class.specs.Books.{BookView}
use Rattle.bump_class.proofs.Keeping.{listed_seen, stands_there}
use Rattle.bump_class.proofs.books.Book.stands_in.Goals as goal

pub has-requires : goal.has-requires
has-requires g c = listed_seen _ _ c.args.chunk c.self.view_is c.self.invariant.3 c.requires.own

pub returns-clause-stands : goal.returns-clause-stands
returns-clause-stands g c =
    let i = c.self.inside in
    let b : BookView = record {
      sheet = i.seat.sheet;
      lists = i.lists;
      hot_limit = i.hot_limit;
      warm_limit = i.warm_limit;
      workers = i.workers;
    } in
    rw (← c.self.view_is) (λ is. (stands_there b c.args.chunk c.args.place c.self.invariant.3
    (ltb-true 0 (times c.args.chunk (list_at b.lists c.args.place)) (sym c.has.ensures ∙ is))).1)
