use Rattle.std.proofs.Common.{rules}
use Rattle.bump_c.proofs.opening.TakeWorkerStoreCall.make.Goals as goal

pub returns : goal.returns
returns g c = record {
  tells = (record { part = c.in_ok-taken.taken.value; filled = search rules; takes = search rules }, search rules, search rules);
}
