use Rattle.std.proofs.Common.{◌≡◌, drop}
use Rattle.std.specs.Arc.{arc_value}
use Rattle.std.specs.Vec.Iter.{into_iter_items}
use Rattle.cache_config.proofs.RowLemmas.{AddsFirst}
use Rattle.cache_config.proofs.part_readers.add_part.Given as goal

-- the first rows have a part more, and the others wait
abbrev pub invariant-loop-number : goal.invariant-loop-number
invariant-loop-number g l = record {
  rows : AddsFirst (arc_value l.heads) l.fn.index.first (into_iter_items l.fn.workers) l.number l.fn.rows l.rows;
  rest : into_iter_items l.workers ≡ drop l.number (into_iter_items l.fn.workers);
  index : l.index ≡ l.fn.index;
}
