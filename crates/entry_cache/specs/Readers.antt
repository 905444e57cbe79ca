-- What contracts see of a reader of a cache of entries.
use Rattle.std.specs.Prelude.{List, map}
use Rattle.bump_cache.specs.Readers.{CacheReaderView}
use Rattle.entry_cache.specs.declared.misses.EntryMiss.{EntryMiss}

-- the reader of its rows, and why it found nothing when it last did
pub record EntryReaderView : Type 0 where
  pub rows : CacheReaderView
  pub missed : EntryMiss

-- the readers of the rows
abbrev pub row_readers : List EntryReaderView → List CacheReaderView
row_readers readers = map (λ (reader : EntryReaderView). reader.rows) readers
