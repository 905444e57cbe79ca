use Rattle.std.proofs.Common.{rules}
use Rattle.bump_c.proofs.draining.run_told_named.Goals as goal

pub returns-clause-applies : goal.returns-clause-applies
returns-clause-applies g c = (c.apply_into-end.result, c.apply_into-end.new.freed, c.freeing_run_told.ensures, search rules)
