use Rattle.std.proofs.Common.{arith}
use Rattle.bump_word.proofs.Steps.{one_more_exchanged, one_more_refused, one_more_next, one_more_added}
use Rattle.bump_word.proofs.laws.one_more.Goals as goal

pub returns-clause-exchanged : goal.returns-clause-exchanged
returns-clause-exchanged c = λ n old h spelled is room. one_more_exchanged n old h spelled is (omega (arith, room))

pub returns-clause-refused : goal.returns-clause-refused
returns-clause-refused c = one_more_refused

pub returns-clause-next : goal.returns-clause-next
returns-clause-next c = λ n h spelled room. one_more_next n h spelled (omega (arith, room))

pub returns-clause-added : goal.returns-clause-added
returns-clause-added c = λ n h spelled room. one_more_added n h spelled (omega (arith, room))
