use Rattle.std.proofs.Common.{rules}
use Rattle.bump_readers.proofs.heads.ReaderHeads.give_back.Goals as goal

pub forget-requires-clause-spent : goal.forget-requires-clause-spent
forget-requires-clause-spent g c = search rules
