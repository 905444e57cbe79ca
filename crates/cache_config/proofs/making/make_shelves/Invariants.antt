use Rattle.std.proofs.Common.{◌≡◌, ◌*◌, drop}
use Rattle.std.specs.Vec.Iter.{into_iter_items}
use Rattle.cache_config.specs.Making.{AreMadeShelves}
use Rattle.cache_config.proofs.making.make_shelves.Given as goal

-- so many shelves there are, and what the others are made of is left
abbrev pub invariant-loop-part : goal.invariant-loop-part
invariant-loop-part g l = record {
  books : into_iter_items l.books ≡ drop l.part l.fn.books.items;
  indexes : into_iter_items l.indexes ≡ drop l.part l.fn.indexes.items;
  lanes : into_iter_items l.lanes ≡ drop (l.part * l.config.readers) l.fn.lanes.items;
  shelves : AreMadeShelves l.config l.fn.key_words l.fn.value_words l.fn.lanes.items l.part l.shelves.items;
}
