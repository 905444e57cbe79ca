use Rattle.std.proofs.Common.{ap, ◌∙◌, ◌+◌}
use Rattle.bump_class.specs.Books.{BookView}
use Rattle.bump_class.proofs.books.Book.range.Goals as goal

pub returns-clause-end : goal.returns-clause-end
returns-clause-end g c = c.self.invariant.2 ∙ ap (λ (b : BookView). b.sheet.first + b.sheet.count) c.self.view_is
