use Rattle.std.proofs.Common.{◌≡◌, replicate}
use Rattle.seen_words.proofs.words.SeenWords.new.Given as goal

abbrev pub invariant-loop : goal.invariant-loop
invariant-loop g l = l.zeros.items ≡ replicate l.counter 0
