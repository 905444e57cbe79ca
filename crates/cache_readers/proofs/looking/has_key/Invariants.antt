use Rattle.std.proofs.Common.{◌≡◌, ℕ, ◌<◌, slice_index}
use Rattle.bump_steps.specs.References.{word_of_row}
use Rattle.cache_readers.proofs.looking.has_key.Given as goal

abbrev pub invariant-loop-index : goal.invariant-loop-index
invariant-loop-index g l = (l.hold ≡ l.fn.hold)
    × ((i : ℕ) → i < l.index → word_of_row l.fn.hold.row i ≡ slice_index l.fn.key i)
