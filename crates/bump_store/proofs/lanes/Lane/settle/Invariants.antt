use Rattle.std.proofs.Common.{◌≡◌, ℕ}
use Rattle.bump_store.specs.Settling.{AppliesEach}
use Rattle.bump_store.proofs.lanes.Lane.settle.Given as goal

abbrev pub invariant-loop : goal.invariant-loop
invariant-loop g l = record {
  ring : (l.self.lane.ring ≡ l.fn.self.lane.ring) × (l.self.capacity ≡ l.fn.self.capacity);
  closed : l.left ≡ l.fn.closed;
  applied : (count : ℕ) × AppliesEach l.fn.now count l.fn.self.lane l.self.lane;
}
