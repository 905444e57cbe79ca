use Rattle.std.proofs.Common.{◌≡◌, ℕ, ◌<◌, [], length, Some}
use Rattle.std.specs.List.{slice_get}
use Rattle.cache_config.proofs.part_readers.empty_rows.Given as goal

-- so many rows there are, of no part
abbrev pub invariant-loop : goal.invariant-loop
invariant-loop g l = record {
  count : length l.rows.items ≡ l.counter;
  rows : (number : ℕ) → number < l.counter → slice_get l.rows.items number ≡ Some [];
}
