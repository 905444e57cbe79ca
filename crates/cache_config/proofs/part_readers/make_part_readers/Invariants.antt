use Rattle.std.proofs.Common.{◌≡◌, ◌*◌, drop}
use Rattle.std.specs.Arc.{arc_value}
use Rattle.std.specs.Vec.Iter.{into_iter_items}
use Rattle.cache_config.specs.Making.{AreRows, chunks_before}
use Rattle.cache_config.proofs.part_readers.make_part_readers.Given as goal

-- so many parts the rows have, by the workers that came first
abbrev pub invariant-loop-part : goal.invariant-loop-part
invariant-loop-part g l = record {
  rows : AreRows (arc_value l.heads) (chunks_before l.config) l.config.readers l.part l.fn.workers.items l.rows.items;
  rest : into_iter_items l.workers ≡ drop (l.part * l.config.readers) l.fn.workers.items;
  indexes : l.indexes ≡ l.fn.indexes;
}
