use Rattle.std.proofs.Common.{arith}
use Rattle.cache_index.proofs.WalkLemmas.{takes_lowest}
use Rattle.cache_index.proofs.tags.without_lowest.Goals as goal

pub returns : goal.returns
returns c = takes_lowest 64 c.args.found c.requires (omega arith)
