use Rattle.cache_part.proofs.ClearLemmas.{ClearedTo}
use Rattle.cache_part.proofs.clearing.clear.Given as goal

-- nothing is linked at the chunks so far
abbrev pub invariant-loop-chunk : goal.invariant-loop-chunk
invariant-loop-chunk g l = ClearedTo l.fn._settings.seed l.fn._settings.key_words l.chunk l.fn.lists l.lists l.index
