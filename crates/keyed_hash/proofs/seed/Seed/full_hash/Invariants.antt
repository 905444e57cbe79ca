use Rattle.std.proofs.Common.{◌≡◌, take}
use Rattle.std.specs.Prelude.{fold}
use Rattle.keyed_hash.specs.Hashes.{start, with_word}
use Rattle.keyed_hash.proofs.seed.Seed.full_hash.Given as goal

-- so far the state is that of the words that were read
abbrev pub invariant-loop-word : goal.invariant-loop-word
invariant-loop-word l = l.state ≡ fold (with_word l.self) (start l.self) (take l.word-index l.words)
