use Rattle.std.proofs.Common.{ℕ, ◌+◌, ◌<◌}
use Rattle.bump_unlocked.specs.UnlockedStore.{IsBetweenStarts}
use Rattle.bump_handles.proofs.drainers.Drainer.class_of.Given as goal

-- none of those that were looked at has the chunk
abbrev pub invariant-loop-class : goal.invariant-loop-class
invariant-loop-class g l = (place : ℕ) → place + 1 < l.class → ¬ IsBetweenStarts l.chunk l.self.starts place
