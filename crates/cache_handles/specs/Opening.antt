-- What a cache of byte strings is, once it is opened.
use Rattle.std.specs.Prelude.{◌≡◌, ℕ, suc, ◌+◌, ◌<◌, List, [], ◌∷◌, length, map, replicate, slice_get, None, Some}
use Rattle.bump_handles.specs.Opening.{all_there}
use Rattle.cache_readers.specs.Readers.{ReaderView}
use Rattle.cache_shelf.specs.Shelves.{ShelfView}
use Rattle.bump_cache.specs.Opening.{AreNewReaders, IsNewShelf}
use Rattle.bump_cache.specs.Readers.{CacheReaderView, readers_by}
use Rattle.cache_handles.specs.declared.config.ByteConfig.{ByteConfig}
use Rattle.cache_handles.specs.Configs.{key_words_of, value_words_of}
use Rattle.cache_handles.specs.Views.{BytePartView, ByteReaderView, OpenedCacheView}

-- a shelf has keys and values of as many words as the longest ones need, and the cache's seed
pub record IsShelfFor (config : ByteConfig) (shelf : ShelfView) : Type 0 where
  pub key_words : shelf.part.key_words ≡ key_words_of config
  pub value_words : shelf.part.value_words ≡ value_words_of config
  pub seed : shelf.part.seed ≡ config.cache.seed

-- the part of this number, with this shelf
abbrev pub part_of_shelf : ByteConfig → ℕ → ShelfView → BytePartView
part_of_shelf config number shelf = record {
  shelf = shelf;
  place = record { number = number; parts = config.cache.parts };
  key_bytes = config.key_bytes;
  value_bytes = config.value_bytes;
  found = replicate (suc (value_words_of config)) 0;
  entry = replicate (suc (key_words_of config + value_words_of config)) 0;
}

-- the parts with these shelves, whose numbers go from this one on
abbrev pub parts_of : ByteConfig → ℕ → List ShelfView → List BytePartView
parts_of config number [] = []
parts_of config number (shelf ∷ shelves) = part_of_shelf config number shelf ∷ parts_of config (number + 1) shelves

-- the reader that reads by this, with so many places that have no hold
abbrev pub reader_by : ByteConfig → ℕ → CacheReaderView → ByteReaderView
reader_by config places reader = record {
  reader = reader;
  key_bytes = config.key_bytes;
  key_words = key_words_of config;
  value_words = value_words_of config;
  holds = replicate places None;
}

-- and those of these readers of the parts
abbrev pub readers_of : ByteConfig → ℕ → List (List ReaderView) → List ByteReaderView
readers_of config places rows = map (λ row. reader_by config places (readers_by config.cache.seed row)) rows

-- A cache of this configuration was opened: all its parts and readers are there, and new.
pub record IsOpenedCache (config : ByteConfig) (places : ℕ) (opened : OpenedCacheView) : Type 0 where
  pub rows : List (List ReaderView)
  pub has_readers : opened.readers ≡ all_there (readers_of config places rows)
  pub reader_count : length rows ≡ config.cache.readers
  pub new_readers : AreNewReaders config.cache (map (readers_by config.cache.seed) rows)
  pub shelves : List ShelfView
  pub has_parts : opened.parts ≡ all_there (parts_of config 0 shelves)
  pub part_count : length shelves ≡ config.cache.parts
  pub new_shelves : (part : ℕ) → part < config.cache.parts → (shelf : ShelfView)
      × (slice_get shelves part ≡ Some shelf)
      × IsNewShelf config.cache part (key_words_of config) (value_words_of config)
      (map (readers_by config.cache.seed) rows) shelf
