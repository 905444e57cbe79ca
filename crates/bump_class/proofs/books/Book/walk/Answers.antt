use Rattle.std.proofs.Common.{◌++◌, ap, ◌∙◌}
use Rattle.std.proofs.lemmas.Result.{MatchResult-at_ok}
use Rattle.bump_rules.specs.Lists.{list_at}
use Rattle.bump_class.specs.Books.{BookView}
use Rattle.bump_class.proofs.Walks.{gave_all}
use Rattle.bump_class.proofs.books.Book.walk.Goals as goal

pub returns : goal.returns
returns g c =
    let ran = c.extend.ensures.ran in
    ran.3.0
    ∙ ap (λ xs. xs ++ ran.1) c.in_ok-found.ensures.items
    ∙ gave_all ran.0 ran.1 (MatchResult-at_ok _ _ _ c.in_ok-extend.was ran.4)
    ∙ ran.2
    ∙ c.chunks.ensures
    ∙ ap (λ (b : BookView). list_at b.lists c.args.place) c.self.view_is
