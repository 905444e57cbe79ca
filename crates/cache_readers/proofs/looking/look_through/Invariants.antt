use Rattle.std.proofs.Common.{◌≡◌, length}
use Rattle.cache_index.specs.History.{Looks}
use Rattle.cache_index.specs.Views.{ahead}
use Rattle.cache_readers.specs.Looks.{FindsOthers}
use Rattle.cache_readers.proofs.MissLemmas.{HoldsMore, IsSoFar}
use Rattle.cache_readers.proofs.looking.look_through.Given as goal

abbrev pub decreases-loop-id : goal.decreases-loop-id
decreases-loop-id g l = ahead l.search

abbrev pub invariant-loop-id : goal.invariant-loop-id
invariant-loop-id g l = FindsOthers l.fn.heads l.fn.key l.fn.now l.fn.worker l.worker
    × (l.search.nests ≡ l.fn.index.nests) × (l.worker.sender.ring ≡ l.fn.worker.sender.ring)
    × (length l.value ≡ length l.fn.value) × (l.search.table ≡ l.fn.index.table)
    × (l.search.first ≡ l.fn.index.first) × (l.search.hash ≡ l.fn.hash) × Looks l.fn.eye l.eye
    × HoldsMore l.fn.worker l.worker
    × IsSoFar l.fn.hash l.fn.key l.fn.index l.search l.fn.worker l.fn.eye l.worker l.eye
