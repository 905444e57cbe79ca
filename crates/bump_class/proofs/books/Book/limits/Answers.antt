use Rattle.std.proofs.Common.{ap}
use Rattle.bump_class.specs.Books.{BookView}
use Rattle.bump_class.proofs.books.Book.limits.Goals as goal

pub returns : goal.returns
returns g c = ap (λ (b : BookView). (b.hot_limit, b.warm_limit)) c.self.view_is
