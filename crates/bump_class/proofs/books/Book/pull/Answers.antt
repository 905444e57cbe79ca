use Rattle.std.proofs.Common.{subst}
use Rattle.bump_rules.specs.declared.places.Limits.{Limits}
use Rattle.bump_class.specs.Pulls.{PullsBy}
use Rattle.bump_class.proofs.books.Book.pull.Goals as goal

pub returns : goal.returns
returns g c = subst (λ (l : Limits). PullsBy l c.args.self.now c.args.tail c.pull_by.result c.pull_by.new.self)
    c.pull_limits-limits.ensures c.pull_by.ensures
