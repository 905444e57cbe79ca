use Rattle.std.proofs.Common.{rules}
use Rattle.store_lies.proofs.readers.hold_in.Goals as goal

pub returns-clause-worker : goal.returns-clause-worker
returns-clause-worker g c = search rules

pub returns-clause-hollow : goal.returns-clause-hollow
returns-clause-hollow g c = search rules
