use Rattle.std.proofs.Common.{subst}
use Rattle.bump_heads.specs.Applying.{NamesNoBumpTwice, NamesWorkersBelow}
use Rattle.bump_class.specs.Books.{BookView}
use Rattle.bump_class.proofs.books.Book.meet_workers.Goals as goal

pub returns-clause-once : goal.returns-clause-once
returns-clause-once g c = subst (λ (b : BookView). NamesNoBumpTwice b.sheet) c.self.view_is c.meet_workers.ensures.once

pub returns-clause-workers : goal.returns-clause-workers
returns-clause-workers g c = subst (λ (b : BookView). NamesWorkersBelow c.args.heads.now.workers b.sheet) c.self.view_is
    c.meet_workers.ensures.workers
