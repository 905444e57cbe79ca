use Rattle.std.proofs.Common.{◌≡◌, ◌+◌, ℕ, ◌<◌, length, drop, Some, vec_len}
use Rattle.std.specs.List.{slice_get}
use Rattle.std.specs.Vec.Iter.{into_iter_items}
use Rattle.cache_shelf.specs.Shelves.{ShelfView}
use Rattle.bump_cache.specs.Opening.{BeginsWith}
use Rattle.bump_cache.proofs.making.make_locks.Given as goal

-- so many locks there are, and each part begins with its shelf
abbrev pub invariant-loop-pairs : goal.invariant-loop-pairs
invariant-loop-pairs g l = record {
  rest : into_iter_items l.pairs-iterator ≡ drop l.number l.fn.shelves.items;
  within : l.number + length (into_iter_items l.pairs-iterator) ≡ length l.fn.shelves.items;
  next : l.logs.next ≡ l.number;
  left : l.logs.left + l.number ≡ length l.fn.shelves.items;
  count : vec_len l.locks ≡ l.number;
  begins : (part : ℕ) (shelf : ShelfView) → part < l.number → slice_get l.fn.shelves.items part ≡ Some shelf
      → BeginsWith part shelf l.me;
  calls : l.me.calls ≡ l.fn.me.calls + l.number;
  parts : l.me.parts ≡ l.fn.me.parts;
  whole : 0 < l.number → length l.fn.shelves.items ≡ 1 → l.fn.me.parts + 1 ≡ g.N.Ledger.parts
      → length l.me.log ≡ l.me.calls;
}
