use Rattle.std.proofs.Common.{◌≡◌, true, sym, subst, arith}
use Rattle.bump_heads.specs.Linking.{place_of_chunk}
use Rattle.bump_steps.specs.Views.{owns}
use Rattle.bump_class.specs.Books.{BookView}
use Rattle.bump_class.proofs.Keeping.{once_there, previous_stands}
use Rattle.bump_class.proofs.books.Book.before.Goals as goal

pub before-requires : goal.before-requires
before-requires g c =
    let i = c.self.inside in
    let b : BookView = record {
      sheet = i.seat.sheet;
      lists = i.lists;
      hot_limit = i.hot_limit;
      warm_limit = i.warm_limit;
      workers = i.workers;
    } in
    let own = subst (λ (x : BookView). owns c.args.chunk x.sheet ≡ true) (sym c.self.view_is) c.requires.own in
    let at = subst (λ (x : BookView). place_of_chunk x.sheet c.args.chunk ≡ c.args.place) (sym c.self.view_is)
    c.requires.stands in
    omega (arith, once_there b c.args.chunk c.args.place c.self.invariant.3 own at)

pub returns-clause-stands : goal.returns-clause-stands
returns-clause-stands g c =
    let i = c.self.inside in
    let b : BookView = record {
      sheet = i.seat.sheet;
      lists = i.lists;
      hot_limit = i.hot_limit;
      warm_limit = i.warm_limit;
      workers = i.workers;
    } in
    rw (← c.self.view_is) (previous_stands b c.args.chunk c.args.place c.before-2.result c.self.invariant.3 c.before-2.ensures)
