use Rattle.std.proofs.Common.{◌≡◌, ℕ, ◌<◌, get_or, length}
use Rattle.packed_words.specs.Strings.{counted, word_in}
use Rattle.packed_words.proofs.bytes.spell.Given as goal

-- the words so far are the string's
abbrev pub invariant-loop-at : goal.invariant-loop-at
invariant-loop-at g l =
    (length l.word-items ≡ g.row.W) × ((k : ℕ) → k < l.at → get_or l.word-items k 0 ≡ word_in (counted l.bytes) k)
