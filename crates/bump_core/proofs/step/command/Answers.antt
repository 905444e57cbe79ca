use Rattle.std.proofs.Common.{rules}
use Rattle.bump_core.proofs.step.command.Goals as goal

pub returns-in-LinkTemp : goal.returns-in-LinkTemp
returns-in-LinkTemp c = search rules
