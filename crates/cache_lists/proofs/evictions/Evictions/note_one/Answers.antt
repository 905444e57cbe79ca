use Rattle.std.proofs.Common.{rules}
use Rattle.cache_lists.specs.Counts.{with_count}
use Rattle.cache_lists.proofs.evictions.Evictions.note_one.Goals as goal

pub returns-then-more : goal.returns-then-more
unfolding with_count
returns-then-more c = search rules

pub returns-else-more : goal.returns-else-more
unfolding with_count
returns-else-more c = search rules
