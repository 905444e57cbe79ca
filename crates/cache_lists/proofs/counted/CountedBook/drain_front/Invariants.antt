use Rattle.std.proofs.Common.{◌≡◌, ◌+◌, length}
use Rattle.bump_class.specs.Lanes.{entries}
use Rattle.cache_lists.specs.Draining.{AppliesEach}
use Rattle.cache_lists.proofs.counted.CountedBook.drain_front.Given as goal

-- so many bumps were applied, and the lane stays that of its ring
abbrev pub invariant-loop-applied : goal.invariant-loop-applied
invariant-loop-applied g l = record {
  applies : AppliesEach l.applied l.now l.fn.self.book l.fn.lane l.self.book l.lane;
  grown : length (entries l.lane) ≡ length (entries l.fn.lane) + l.applied;
  ring : l.lane.ring ≡ l.fn.lane.ring;
  evictions : l.self.evictions ≡ l.fn.self.evictions;
}
