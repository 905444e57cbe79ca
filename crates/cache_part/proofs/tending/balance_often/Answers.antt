use Rattle.std.proofs.Common.{refl}
use Rattle.cache_part.proofs.tending.balance_often.Goals as goal

pub returns-clause-balances : goal.returns-clause-balances
returns-clause-balances g c = record { most = 100; often = refl; balances = c.balance.ensures.balances }
