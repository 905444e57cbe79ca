use Rattle.std.proofs.Common.{rules}
use Rattle.store_lies.proofs.seats.alight.Goals as goal

pub returns-clause-class : goal.returns-clause-class
returns-clause-class g c = search rules

pub returns-clause-lane : goal.returns-clause-lane
returns-clause-lane g c = search rules

pub returns-clause-found : goal.returns-clause-found
returns-clause-found g c = search rules

pub returns-clause-entry : goal.returns-clause-entry
returns-clause-entry g c = search rules

pub returns-clause-once : goal.returns-clause-once
returns-clause-once g c = search rules

pub returns-clause-moves : goal.returns-clause-moves
returns-clause-moves g c = search rules
