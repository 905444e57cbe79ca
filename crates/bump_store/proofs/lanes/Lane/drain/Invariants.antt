use Rattle.std.proofs.Common.{◌≡◌, ◌+◌, ◌-◌, ◌≤◌, None, length}
use mathlib.Core.List.{IsPrefix}
use Rattle.bump_class.specs.Lanes.{LaneView, carries, entries}
use Rattle.bump_class.specs.Runs.{MayHaveBoarded}
use Rattle.bump_store.specs.Lanes.{AppliesMany}
use Rattle.bump_store.proofs.lanes.Lane.drain.Given as goal

-- so many bumps were applied, and behind them the next one may have gone aboard, if more may be applied
abbrev pub invariant-loop-done : goal.invariant-loop-done
invariant-loop-done g l = record {
  most : l.done ≤ l.capacity;
  same : l.self-inside.capacity ≡ l.fn.self.capacity;
  ring : l.self-inside.raw.ring ≡ l.fn.self.lane.ring;
  count : length (entries l.self-inside.raw) ≡ length (entries l.fn.self.lane) + l.done;
  grown : IsPrefix (entries l.fn.self.lane) (entries l.self-inside.raw);
  drained : (last : LaneView) × AppliesMany l.now l.fn.self.lane l.done last
      × MayHaveBoarded (carries l.self-inside.raw) last l.self-inside.raw;
  empty : l.done ≡ l.capacity → carries l.self-inside.raw ≡ None;
}

abbrev pub decreases-loop-done : goal.decreases-loop-done
decreases-loop-done g l = l.capacity - l.done
