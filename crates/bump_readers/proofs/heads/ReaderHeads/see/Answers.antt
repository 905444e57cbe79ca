use Rattle.std.proofs.Common.{rules}
use Rattle.bump_readers.proofs.heads.ReaderHeads.see.Goals as goal

pub returns-clause-linked : goal.returns-clause-linked
returns-clause-linked g c = search rules
