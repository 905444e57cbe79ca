use Rattle.std.proofs.Common.{arith}
use Rattle.bump_word.proofs.Words.{there, back}
use Rattle.bump_word.proofs.laws.there_and_back.Goals as goal

pub returns-clause-there : goal.returns-clause-there
returns-clause-there c = λ h n answer refs generation packed every. there h n answer
    (omega (arith, refs)) generation packed every

pub returns-clause-back : goal.returns-clause-back
returns-clause-back c = back

pub returns-clause-may_be_packed : goal.returns-clause-may_be_packed
returns-clause-may_be_packed c = λ n h spelled. omega (arith, spelled.1.0)
