use Rattle.std.proofs.Common.{◌≡◌}
use Rattle.cache_lists.specs.Items.{KeepsItems}
use Rattle.cache_part.specs.Tending.{BalancesTimes}
use Rattle.cache_part.proofs.tending.balance_by.Given as goal

-- so many rounds moved an item each
abbrev pub invariant-loop-round : goal.invariant-loop-round
invariant-loop-round g l = record {
  balances : BalancesTimes l._round l.hot l.warm l.now l.fn.lists.book l.lists.book;
  kept : KeepsItems l.fn.lists.book l.lists.book;
  evictions : l.lists.evictions ≡ l.fn.lists.evictions;
}
