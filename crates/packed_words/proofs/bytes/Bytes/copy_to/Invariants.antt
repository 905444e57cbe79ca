use Rattle.std.proofs.Common.{◌≡◌, ℕ, ◌<◌, get_or}
use Rattle.packed_words.proofs.bytes.Bytes.copy_to.Given as goal

-- the bytes so far are the string's
abbrev pub invariant-loop-index : goal.invariant-loop-index
invariant-loop-index g l = (k : ℕ) → k < l.index → get_or l.to k 0 ≡ get_or l.self k 0
