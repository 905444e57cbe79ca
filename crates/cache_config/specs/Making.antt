-- What a cache is made of, step by step, when it is opened.
use Rattle.std.specs.Prelude.{◌≡◌, ℕ, zero, suc, ◌+◌, ◌*◌, ◌<◌, ◌++◌, List, [], ◌∷◌, length, replicate, slice_get, option_map, Option, None, Some}
use Rattle.bump_rules.specs.declared.configs.Config.{Config}
use Rattle.bump_class.specs.Books.{BookView}
use Rattle.bump_class.specs.Lanes.{LaneView}
use Rattle.bump_unlocked.specs.Workers.{WorkerState}
use Rattle.cache_lists.specs.Counts.{no_evictions, no_flow}
use Rattle.cache_index.specs.Views.{IndexView, Led}
use Rattle.cache_readers.specs.Readers.{ReaderView, counts_of, no_counts}
use Rattle.cache_shelf.specs.Shelves.{ShelfView}
use Rattle.cache_shelf.specs.declared.limits.Limits.{Limits}
use Rattle.cache_config.specs.declared.config.CacheConfig.{CacheConfig}
use Rattle.cache_config.specs.Configs.{bounds_of, class_of, items_in}

-- the first chunk of a part: as many as the parts before it have together
abbrev pub chunks_before : CacheConfig → ℕ → ℕ
chunks_before config zero = 0
chunks_before config (suc part) = chunks_before config part + (class_of config part).chunks

-- the limits of a part
abbrev pub limits_of : CacheConfig → ℕ → Limits
limits_of config part = record {
  bounds = bounds_of config part;
  most = config.ring;
  looks = config.expiry_looks;
}

-- The index of a part: it has the part's chunks, behind those of the parts before, and leads to none.
pub record IsNewIndex (config : CacheConfig) (part : ℕ) (index : IndexView) : Type 0 where
  pub first : index.first ≡ chunks_before config part
  pub table : index.table ≡ replicate (chunks_before config (suc part)) None

-- These are those of so many parts, by number.
pub record AreNewIndexes (config : CacheConfig) (count : ℕ) (indexes : List IndexView) : Type 0 where
  pub count_is : length indexes ≡ count
  pub each : (part : ℕ) → part < count
      → (index : IndexView) × (slice_get indexes part ≡ Some index) × IsNewIndex config part index

-- The Book of a part: it has the part's chunks, and none was used.
pub record IsNewBook (config : CacheConfig) (part : ℕ) (book : BookView) : Type 0 where
  pub class : book.sheet.class ≡ part
  pub first : book.sheet.first ≡ chunks_before config part
  pub chunks : book.sheet.count ≡ (class_of config part).chunks
  pub unused : book.sheet.history ≡ []

-- These are those of the parts, by number.
pub record AreNewBooks (config : CacheConfig) (books : List BookView) : Type 0 where
  pub count : length books ≡ config.parts
  pub each : (part : ℕ) → part < config.parts
      → (book : BookView) × (slice_get books part ≡ Some book) × IsNewBook config part book

-- the shelf of a part that has this Book and these lanes, in which there is nothing
abbrev pub new_shelf : CacheConfig → ℕ → ℕ → ℕ → BookView → List (Option Led) → List LaneView → ShelfView
new_shelf config part key_width value_width book index lanes = record {
  part = record {
    book = book;
    flow = no_flow;
    evictions = no_evictions;
    index = index;
    seed = config.seed;
    key_words = key_width;
    value_words = value_width;
    items = items_in config part;
    temporary = config.temporary;
    cursor = 0;
  };
  lanes = lanes;
  limits = limits_of config part;
  puts = 0;
}

-- The shelf of a part, in which there is nothing: its lanes are those of the part, of all that are numbered part by
-- part.
pub record IsMadeShelf (config : CacheConfig) (part key_width value_width : ℕ) (lanes : List LaneView)
    (shelf : ShelfView) : Type 0 where
  pub book : BookView
  pub new_book : IsNewBook config part book
  pub own : List LaneView
  pub count : length own ≡ config.readers
  pub each : (number : ℕ) → number < config.readers
      → slice_get own number ≡ slice_get lanes (part * config.readers + number)
  pub made : shelf ≡ new_shelf config part key_width value_width book
      (replicate (chunks_before config (suc part)) None) own

-- These are those of so many parts, by number.
pub record AreMadeShelves (config : CacheConfig) (key_width value_width : ℕ) (lanes : List LaneView) (count : ℕ)
    (shelves : List ShelfView) : Type 0 where
  pub count_is : length shelves ≡ count
  pub each : (part : ℕ) → part < count → (shelf : ShelfView) × (slice_get shelves part ≡ Some shelf)
      × IsMadeShelf config part key_width value_width lanes shelf

-- Each row has a reader more, of the index with this first chunk: those of the workers that come next, in their order.
pub record AddsPart (store : Config) (chunk : ℕ) (workers : List WorkerState) (before after : List (List ReaderView))
    : Type 0 where
  pub count : length after ≡ length before
  pub each : (number : ℕ) (row : List ReaderView) → slice_get before number ≡ Some row
      → (worker : WorkerState) × (slice_get workers number ≡ Some worker)
      × (reader : ReaderView) × (counts_of reader ≡ no_counts store chunk worker)
      × (slice_get after number ≡ Some (row ++ reader ∷ []))

-- The rows are those of readers of so many parts, by the first chunk of each part, and by workers that are numbered part
-- by part.
pub record AreRows (store : Config) (chunks : ℕ → ℕ) (readers parts : ℕ) (workers : List WorkerState)
    (rows : List (List ReaderView)) : Type 0 where
  pub count : length rows ≡ readers
  pub length_is : (number : ℕ) (row : List ReaderView) → slice_get rows number ≡ Some row → length row ≡ parts
  pub each : (number : ℕ) (row : List ReaderView) → slice_get rows number ≡ Some row → (part : ℕ) → part < parts
      → option_map counts_of (slice_get row part)
      ≡ option_map (no_counts store (chunks part)) (slice_get workers (part * readers + number))
