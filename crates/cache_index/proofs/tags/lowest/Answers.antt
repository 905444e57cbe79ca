use Rattle.cache_index.proofs.WalkLemmas.{lane_of_bits}
use Rattle.cache_index.proofs.FoundLemmas.{lowest_here, none_before}
use Rattle.cache_index.proofs.tags.lowest.Goals as goal

pub returns-clause-within : goal.returns-clause-within
returns-clause-within c = lane_of_bits c.args.found c.requires.some c.requires.narrow

pub returns-clause-here : goal.returns-clause-here
returns-clause-here c = lowest_here c.args.found c.requires.some c.requires.narrow

pub returns-clause-lowest : goal.returns-clause-lowest
returns-clause-lowest c lane below = none_before c.args.found lane c.requires.some c.requires.narrow below
