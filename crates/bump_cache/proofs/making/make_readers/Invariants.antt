use Rattle.std.proofs.Common.{◌≡◌, ◌++◌, List, length, map}
use Rattle.std.specs.List.{All}
use Rattle.std.specs.Vec.Iter.{into_iter_items}
use Rattle.cache_readers.specs.Readers.{ReaderView}
use Rattle.cache_config.specs.Choosing.{IsPartCount}
use Rattle.bump_cache.specs.Readers.{readers_by}
use Rattle.bump_cache.proofs.making.make_readers.Given as goal

-- those that were made, and those that are still to come
abbrev pub invariant-loop-row : goal.invariant-loop-row
invariant-loop-row g l = record {
  made : l.readers.items ++ map (readers_by l.seed) (into_iter_items l.row-iterator)
      ≡ map (readers_by l.seed) l.fn.rows.items;
  parts : All (λ (row : List ReaderView). IsPartCount (length row)) (into_iter_items l.row-iterator);
}
