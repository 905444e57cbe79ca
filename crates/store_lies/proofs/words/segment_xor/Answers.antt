use Rattle.std.proofs.Common.{rules}
use Rattle.store_lies.proofs.words.segment_xor.Goals as goal

pub returns : goal.returns
returns c = search rules
