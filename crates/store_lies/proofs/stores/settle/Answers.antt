use Rattle.std.proofs.Common.{rules}
use Rattle.store_lies.proofs.stores.settle.Goals as goal

pub returns-clause-all : goal.returns-clause-all
returns-clause-all g c = search rules

pub returns-clause-received : goal.returns-clause-received
returns-clause-received g c = search rules

pub returns-clause-accepted : goal.returns-clause-accepted
returns-clause-accepted g c = search rules

pub returns-clause-unknown : goal.returns-clause-unknown
returns-clause-unknown g c = search rules

pub returns-clause-unseen : goal.returns-clause-unseen
returns-clause-unseen g c = search rules
