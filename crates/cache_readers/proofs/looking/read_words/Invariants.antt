use Rattle.std.proofs.Common.{◌≡◌, ℕ, ◌+◌, ◌<◌, length, slice_index}
use Rattle.bump_steps.specs.References.{word_of_row}
use Rattle.cache_readers.proofs.looking.read_words.Given as goal

abbrev pub invariant-loop-index : goal.invariant-loop-index
invariant-loop-index g l = (l.hold ≡ l.fn.hold) × (length l.words ≡ length l.fn.words)
    × ((i : ℕ) → i < l.index → word_of_row l.fn.hold.row (l.fn.from + i) ≡ slice_index l.words i)
