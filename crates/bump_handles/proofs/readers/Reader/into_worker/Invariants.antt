use Rattle.std.proofs.Common.{length}
use Rattle.bump_handles.proofs.readers.Reader.into_worker.Given as goal

abbrev pub decreases-loop-place : goal.decreases-loop-place
decreases-loop-place g l = length l.holds.items
