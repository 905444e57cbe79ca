use Rattle.std.proofs.Common.{vec_len}
use Rattle.store_trace.proofs.keeping.KeptHolds.release_all.Given as goal

abbrev pub decreases-loop-kept : goal.decreases-loop-kept
decreases-loop-kept g l = vec_len l.holds
