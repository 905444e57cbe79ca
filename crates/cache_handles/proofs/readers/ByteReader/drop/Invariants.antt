use Rattle.std.proofs.Common.{◌≤◌, length}
use Rattle.cache_handles.proofs.readers.ByteReader.drop.Given as goal

-- there is a reader of a part
abbrev pub invariant-loop-place : goal.invariant-loop-place
invariant-loop-place g l = 1 ≤ length l.parts.items

abbrev pub decreases-loop-place : goal.decreases-loop-place
decreases-loop-place g l = length l.holds.items
