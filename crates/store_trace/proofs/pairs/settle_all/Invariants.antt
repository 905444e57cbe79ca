use Rattle.std.proofs.Common.{◌≡◌, ◌≤◌, length, take, None}
use Rattle.std.specs.List.{All}
use Rattle.store_trace.specs.Reports.{IsLaterLane}
use Rattle.store_trace.proofs.InTurn.{ChangedSoFar}
use Rattle.store_trace.proofs.pairs.settle_all.Given as goal

-- the first workers, so many, were closed, and their lanes settled
abbrev pub invariant-loop-at : goal.invariant-loop-at
invariant-loop-at g l = record {
  count : length l.pairs.items ≡ length l.fn.pairs.items;
  closed : All (λ pair. pair.worker ≡ None) (take l.at l.pairs.items);
  later : ChangedSoFar (λ before after. IsLaterLane before.lane after.lane) l.at l.fn.pairs.items l.pairs.items;
  end : l.at-end ≡ length l.fn.pairs.items;
  place : l.at ≤ length l.fn.pairs.items;
}
