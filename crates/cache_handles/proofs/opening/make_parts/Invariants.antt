use Rattle.std.proofs.Common.{◌≡◌, ◌+◌, ◌++◌, length, map, option_map}
use Rattle.std.specs.List.{All}
use Rattle.std.specs.Vec.Iter.{into_iter_items}
use Rattle.bump_handles.specs.Opening.{all_there}
use Rattle.cache_handles.specs.Opening.{IsShelfFor, parts_of}
use Rattle.cache_handles.proofs.opening.make_parts.Given as goal

-- those that were made, and those that are still to come
abbrev pub invariant-loop-shelf : goal.invariant-loop-shelf
invariant-loop-shelf g l = record {
  made : map (option_map (λ b. b.value)) l.all.items
      ++ all_there (parts_of l.fn.config l.number (into_iter_items l.shelf-iterator))
      ≡ all_there (parts_of l.fn.config 0 l.fn.shelves.items);
  counted : l.number + length (into_iter_items l.shelf-iterator) ≡ l.fn.config.cache.parts;
  fit : All (IsShelfFor l.fn.config) (into_iter_items l.shelf-iterator);
}
