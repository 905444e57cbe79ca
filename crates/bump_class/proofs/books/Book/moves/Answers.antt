use Rattle.std.proofs.Common.{◌<◌, ap, length, refl, sym, ◌∙◌, subst, arith}
use Rattle.std.proofs.lemmas.List.{get_or_read_under}
use Rattle.bump_rules.specs.Entries.{moves_of}
use Rattle.bump_class.specs.Books.{BookView}
use Rattle.bump_class.proofs.books.Book.moves.Goals as goal

pub returns : goal.returns
returns g c =
    let near = subst (λ (b : BookView). c.args.worker < b.workers) (sym c.self.view_is) c.requires.range in
    let items = c.self.inside.moved.items in
    get_or_read_under items c.args.worker (length items) c.index.result.now 0 c.index.ensures
    (omega (arith, near, c.self.invariant.5)) refl ∙ c.self.invariant.4 c.args.worker near ∙ ap (λ (b : BookView). moves_of c.args.worker b.sheet.history) c.self.view_is
