use Rattle.std.proofs.Common.{rules}
use Rattle.store_lies.proofs.links.len.Goals as goal

pub returns : goal.returns
returns c = search rules
