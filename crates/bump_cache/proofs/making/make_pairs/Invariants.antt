use Rattle.std.proofs.Common.{◌≡◌, ◌++◌}
use Rattle.std.specs.List.{All}
use Rattle.std.specs.Vec.Iter.{into_iter_items}
use Rattle.bump_cache.specs.Opening.{IsWide}
use Rattle.bump_cache.proofs.making.make_pairs.Given as goal

-- those that were made, and those that are still to come
abbrev pub invariant-loop-shelf : goal.invariant-loop-shelf
invariant-loop-shelf g l = record {
  made : l.all.items ++ into_iter_items l.shelf-iterator ≡ l.fn.shelves.items;
  wide : All (IsWide g.K.Packed.width g.V.Packed.width) (into_iter_items l.shelf-iterator);
}
