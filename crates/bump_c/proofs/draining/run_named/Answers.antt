use Rattle.std.proofs.Common.{rules}
use Rattle.bump_c.proofs.draining.run_named.Goals as goal

pub returns-clause-applies : goal.returns-clause-applies
returns-clause-applies g c = (c.apply.result, c.run_told-said.ensures, search rules)
