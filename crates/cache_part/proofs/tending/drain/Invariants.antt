use Rattle.std.proofs.Common.{◌≡◌}
use Rattle.cache_lists.specs.Items.{KeepsItems}
use Rattle.cache_part.proofs.TendingLemmas.{DrainsFirst}
use Rattle.cache_part.proofs.tending.drain.Given as goal

-- so many lanes had their turns, and the others are as they were
abbrev pub invariant-loop-lane : goal.invariant-loop-lane
invariant-loop-lane g l = record {
  drains : DrainsFirst l.most l.now l.lane-index l.fn.lists.book l.fn.lanes l.lists.book l.lanes;
  kept : KeepsItems l.fn.lists.book l.lists.book;
  evictions : l.lists.evictions ≡ l.fn.lists.evictions;
}
