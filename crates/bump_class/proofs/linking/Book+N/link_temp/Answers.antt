use Rattle.std.proofs.Common.{rules}
use Rattle.bump_class.proofs.linking.Book+N.link_temp.Goals as goal

pub returns-clause-linked : goal.returns-clause-linked
returns-clause-linked g c = search rules
