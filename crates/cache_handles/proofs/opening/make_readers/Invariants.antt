use Rattle.std.proofs.Common.{◌≡◌, ◌++◌, List, length, map, option_map}
use Rattle.std.specs.List.{All}
use Rattle.std.specs.Vec.Iter.{into_iter_items}
use Rattle.bump_handles.specs.Opening.{all_there}
use Rattle.cache_readers.specs.Readers.{ReaderView}
use Rattle.cache_config.specs.Choosing.{IsPartCount}
use Rattle.cache_handles.specs.Opening.{readers_of}
use Rattle.cache_handles.proofs.opening.make_readers.Given as goal

-- those that were made, and those that are still to come
abbrev pub invariant-loop-row : goal.invariant-loop-row
invariant-loop-row g l = record {
  made : map (option_map (λ b. b.value)) l.all.items
      ++ all_there (readers_of l.fn.config l.fn.places (into_iter_items l.row-iterator))
      ≡ all_there (readers_of l.fn.config l.fn.places l.fn.rows.items);
  counted : All (λ (row : List ReaderView). IsPartCount (length row)) (into_iter_items l.row-iterator);
}
