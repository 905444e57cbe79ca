use Rattle.std.proofs.Common.{rules}
use Rattle.store_lies.proofs.words.pack.Goals as goal

pub returns : goal.returns
returns c = search rules
