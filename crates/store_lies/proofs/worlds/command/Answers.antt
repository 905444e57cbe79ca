use Rattle.std.proofs.Common.{rules}
use Rattle.store_lies.proofs.worlds.command.Goals as goal

pub returns-clause-command : goal.returns-clause-command
returns-clause-command c = search rules

pub returns-clause-events : goal.returns-clause-events
returns-clause-events c = search rules

pub returns-clause-labels : goal.returns-clause-labels
returns-clause-labels c = search rules

pub returns-clause-closed : goal.returns-clause-closed
returns-clause-closed c = search rules

pub returns-clause-sizes : goal.returns-clause-sizes
returns-clause-sizes c = search rules
