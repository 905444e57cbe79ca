use Rattle.std.proofs.Common.{arith}
use Rattle.std.proofs.lemmas.Grind.{common_steps}
use Rattle.bump_rules.proofs.configs.Config.new.Goals as goal

pub returns-clause-fault : goal.returns-clause-fault
returns-clause-fault c = grind (arith, common_steps)
