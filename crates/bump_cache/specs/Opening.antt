-- What a cache is opened from, and what it is once it is opened.
use Rattle.std.specs.Prelude.{◌≡◌, ℕ, suc, ◌+◌, ◌*◌, ◌<◌, List, [], length, replicate, slice_get, option_map, All, None, Some}
use mathlib.Core.List.{IsPrefix}
use Rattle.atomic_table.specs.Seated.{TableId}
use Rattle.logbook.specs.Pages.{Book}
use Rattle.bump_rules.specs.declared.configs.Config.{Config}
use Rattle.bump_steps.specs.Rule.{worker_sheets}
use Rattle.bump_unlocked.specs.UnlockedStore.{raw_rings}
use Rattle.bump_unlocked.specs.Workers.{worker_sheets_of, WorkerState}
use Rattle.bump_heads.specs.Making.{BlankView}
use Rattle.call_log.specs.Blanks.{BlankView as LogBlankView}
use Rattle.call_log.specs.Calls.{CallerView}
use Rattle.call_log.specs.Logs.{calls_of, state_of}
use Rattle.cache_readers.specs.Readers.{counts_of, no_counts}
use Rattle.cache_lists.specs.Counts.{no_evictions, no_flow}
use Rattle.cache_shelf.specs.Shelves.{ShelfView}
use Rattle.cache_config.specs.declared.config.CacheConfig.{CacheConfig}
use Rattle.cache_config.specs.Configs.{IsStoreOf, class_of, first_cache_fault, items_in}
use Rattle.cache_config.specs.Making.{chunks_before, limits_of}
use Rattle.bump_cache.specs.Readers.{CacheReaderView, rings_of}
use Rattle.bump_cache.specs.States.{PartState, number_of}

-- what contracts see of what a cache is opened from: which table its words are, its log, and its configuration
pub record CacheBlankView : Type 0 where
  pub table : TableId
  pub log : LogBlankView
  pub config : CacheConfig

-- The names say what the blank has: its words are of this table, and its log is of this book, has this name, and may have
-- so many callers and parts.
abbrev pub IsNamed : TableId → Book → ℕ → ℕ → CacheBlankView → Type 0
IsNamed table book name parts blank = (blank.table ≡ table) × (blank.log.book ≡ book) × (blank.log.name ≡ name)
    × (blank.log.parts ≡ parts)

-- a key and a value take at most so many words together
abbrev pub most_words : ℕ
most_words = 64

-- a cache has at most so many callers
abbrev pub most_callers : ℕ
most_callers = 4294967296

-- What a blank of a cache keeps: the words are of a store of its configuration, which has no fault.
pub record IsCacheBlank (blank : BlankView) (store : Config) (config : CacheConfig) : Type 0 where
  pub words : blank.config ≡ store
  pub store_of : IsStoreOf config store
  pub no_fault : first_cache_fault config ≡ None

-- The reader of this number got nothing yet: in each part it searches the index of the part's chunks, and has one of the
-- new workers, which are numbered part by part.
pub record IsNewReader (config : CacheConfig) (store : Config) (workers : List WorkerState) (number : ℕ)
    (reader : CacheReaderView) : Type 0 where
  pub seed : reader.seed ≡ config.seed
  pub parts : length reader.parts ≡ config.parts
  pub each : (part : ℕ) → part < config.parts
      → option_map counts_of (slice_get reader.parts part)
      ≡ option_map (no_counts store (chunks_before config part)) (slice_get workers (part * config.readers + number))

-- These are the readers of a cache of this configuration that was just opened, whose store's workers made no step.
pub record AreNewReaders (config : CacheConfig) (readers : List CacheReaderView) : Type 0 where
  pub store : Config
  pub workers : List WorkerState
  pub store_of : IsStoreOf config store
  pub made : (number : ℕ) (reader : CacheReaderView) → slice_get readers number ≡ Some reader
      → IsNewReader config store workers number reader
  pub new_workers : worker_sheets_of workers ≡ worker_sheets 0 (config.readers * config.parts)
  pub capacity : All (λ (worker : WorkerState). worker.sender.capacity ≡ config.ring) workers

-- What a part of a cache of this configuration is when it is opened, with keys and values of so many words: its class
-- is of its number, no chunk was used yet, nothing was counted, its lanes are those of the readers' rings in this part,
-- in their order, and the first looks for expired items are at its first chunk.
pub record IsNewShelf (config : CacheConfig) (part key_width value_width : ℕ) (readers : List CacheReaderView)
    (shelf : ShelfView) : Type 0 where
  pub class : shelf.part.book.sheet.class ≡ part
  pub first : shelf.part.book.sheet.first ≡ chunks_before config part
  pub chunks : shelf.part.book.sheet.count ≡ (class_of config part).chunks
  pub unused : shelf.part.book.sheet.history ≡ []
  pub index : shelf.part.index ≡ replicate (chunks_before config (suc part)) None
  pub flow : shelf.part.flow ≡ no_flow
  pub evictions : shelf.part.evictions ≡ no_evictions
  pub seed : shelf.part.seed ≡ config.seed
  pub key_words : shelf.part.key_words ≡ key_width
  pub value_words : shelf.part.value_words ≡ value_width
  pub items : shelf.part.items ≡ items_in config part
  pub temporary : shelf.part.temporary ≡ config.temporary
  pub cursor : shelf.part.cursor ≡ 0
  pub limits : shelf.limits ≡ limits_of config part
  pub puts : shelf.puts ≡ 0
  pub lane_count : length shelf.lanes ≡ config.readers
  pub lanes : (number : ℕ) (reader : CacheReaderView) → slice_get readers number ≡ Some reader
      → slice_get (raw_rings shelf.lanes) number ≡ slice_get (rings_of reader) part

-- The part's first call, of those that the caller knows of, left this shelf.
pub record BeginsWith (part : ℕ) (shelf : ShelfView) (me : CallerView PartState) : Type 0 where
  pub seen : List PartState
  pub prefix : IsPrefix seen me.log
  pub once : calls_of number_of part seen ≡ 1
  pub left : state_of number_of part me.first seen ≡ record { number = part; shelf = shelf }

-- The part begins with a new shelf.
pub record IsNewPart (config : CacheConfig) (part key_width value_width : ℕ) (readers : List CacheReaderView)
    (me : CallerView PartState) : Type 0 where
  pub shelf : ShelfView
  pub new : IsNewShelf config part key_width value_width readers shelf
  pub begins : BeginsWith part shelf me

-- each shelf is what the first call of its part left
abbrev pub BeginsAll : List ShelfView → CallerView PartState → Type 0
BeginsAll shelves me =
    (part : ℕ) (shelf : ShelfView) → slice_get shelves part ≡ Some shelf → BeginsWith part shelf me

-- the keys and the values of a shelf have so many words
abbrev pub IsWide : ℕ → ℕ → ShelfView → Type 0
IsWide key_width value_width shelf =
    (shelf.part.key_words ≡ key_width) × (shelf.part.value_words ≡ value_width)
