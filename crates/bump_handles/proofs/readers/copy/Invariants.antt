use Rattle.std.proofs.Common.{◌≡◌, ◌<◌, ◌≤◌, ◌+◌, ℕ, length, slice_index}
use Rattle.bump_steps.specs.References.{word_of_row}
use Rattle.bump_handles.proofs.readers.copy.Given as goal

-- the words so far, and the rest of the slice as it was
abbrev pub invariant-loop-index : goal.invariant-loop-index
invariant-loop-index g l = record {
  hold : l.hold ≡ l.fn.hold;
  long : length l.words ≡ length l.fn.words;
  words : (j : ℕ) → l.first + j < l.index → slice_index l.words j ≡ word_of_row l.fn.hold.row (l.first + j);
  rest : (j : ℕ) → l.index ≤ l.first + j → slice_index l.words j ≡ slice_index l.fn.words j;
}
