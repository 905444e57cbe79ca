-- The parts of a cache that was opened begin with new shelves.
use Rattle.std.proofs.Common.{◌≡◌, ℕ, ◌+◌, ◌*◌, ◌<◌, List, length, get_or, Option, Some, None, option_map, All, refl, sym, ap, ◌∙◌, subst, arith}
use Rattle.std.specs.List.{slice_get}
use Rattle.std.proofs.lemmas.Option.{slice_get-get_or, slice_get-map, slice_get_within}
use Rattle.bump_rules.specs.declared.configs.Config.{Config}
use Rattle.bump_class.specs.Lanes.{LaneView}
use Rattle.bump_unlocked.specs.UnlockedStore.{raw_rings}
use Rattle.bump_unlocked.specs.Workers.{WorkerState, worker_sheets_of, worker_rings}
use Rattle.bump_ring.specs.Ends.{Ring}
use Rattle.bump_steps.specs.Rule.{worker_sheets}
use Rattle.call_log.specs.Calls.{CallerView}
use Rattle.cache_readers.specs.Readers.{CountsView, ReaderView, counts_of, no_counts}
use Rattle.cache_shelf.specs.Shelves.{ShelfView}
use Rattle.cache_config.specs.declared.config.CacheConfig.{CacheConfig}
use Rattle.cache_config.specs.Configs.{IsStoreOf}
use Rattle.cache_config.specs.Making.{AreMadeShelves, IsMadeShelf, chunks_before}
use Rattle.bump_cache.specs.Opening.{AreNewReaders, BeginsAll, CacheBlankView, IsNewPart, IsNewReader, IsNewShelf, IsWide}
use Rattle.bump_cache.specs.Readers.{CacheReaderView, rings_of}
use Rattle.bump_cache.specs.States.{PartState}

-- a new reader of a worker sends into the worker's ring
ring_of_reader : (store : Config) (chunk : ℕ) (worker : Option WorkerState)
    → option_map (λ (counts : CountsView). counts.worker.sender.ring) (option_map (no_counts store chunk) worker)
    ≡ option_map (λ (w : WorkerState). w.sender.ring) worker
ring_of_reader store chunk None = refl
ring_of_reader store chunk (Some worker) = refl

ring_of_counts : (part : Option ReaderView)
    → option_map (λ (counts : CountsView). counts.worker.sender.ring) (option_map counts_of part)
    ≡ option_map (λ (p : ReaderView). p.worker.sender.ring) part
ring_of_counts None = refl
ring_of_counts (Some part) = refl

module _ (config : CacheConfig) (store : Config) (workers : List WorkerState) (lanes : List LaneView)
    (readers : List CacheReaderView) (rings : worker_rings workers ≡ raw_rings lanes)
    (made : (number : ℕ) (reader : CacheReaderView) → slice_get readers number ≡ Some reader
    → IsNewReader config store workers number reader)
    (count : length readers ≡ config.readers) (key_width value_width : ℕ) where
  -- the lane of a number in a part is that of the reader's ring there
  own_lane : (part : ℕ) (shelf : ShelfView) (is : IsMadeShelf config part key_width value_width lanes shelf)
      → part < config.parts → (number : ℕ) (reader : CacheReaderView) → slice_get readers number ≡ Some reader
      → slice_get (raw_rings is.own) number ≡ slice_get (rings_of reader) part
  own_lane part shelf is low number reader had =
      let ring_of_lane = λ (lane : LaneView). lane.ring in
      let ring_of_worker = λ (w : WorkerState). w.sender.ring in
      let ring_of_part = λ (p : ReaderView). p.worker.sender.ring in
      let ring_of_count = λ (counts : CountsView). counts.worker.sender.ring in
      let within : number < length readers = slice_get_within readers number reader had in
      let place : slice_get is.own number ≡ slice_get lanes (part * config.readers + number) =
      is.each number (omega (arith, within, count)) in
      slice_get-map ring_of_lane is.own number
      ∙ (ap (option_map ring_of_lane) place
      ∙ (sym (slice_get-map ring_of_lane lanes (part * config.readers + number))
      ∙ (ap (λ (rs : List Ring). slice_get rs (part * config.readers + number)) (sym rings)
      ∙ (slice_get-map ring_of_worker workers (part * config.readers + number)
      ∙ (sym (ring_of_reader store (chunks_before config part) (slice_get workers (part * config.readers + number)))
      ∙ (ap (option_map ring_of_count) (sym ((made number reader had).each part low))
      ∙ (ring_of_counts (slice_get reader.parts part) ∙ sym (slice_get-map ring_of_part reader.parts part))))))))

  -- the shelf of a part is new
  pub new_of_made : (part : ℕ) (shelf : ShelfView) → IsMadeShelf config part key_width value_width lanes shelf
      → part < config.parts → IsNewShelf config part key_width value_width readers shelf
  new_of_made part shelf is low =
      subst (IsNewShelf config part key_width value_width readers) (sym is.made) (record {
        class = is.new_book.class;
        first = is.new_book.first;
        chunks = is.new_book.chunks;
        unused = is.new_book.unused;
        index = refl;
        flow = refl;
        evictions = refl;
        seed = refl;
        key_words = refl;
        value_words = refl;
        items = refl;
        temporary = refl;
        cursor = refl;
        limits = refl;
        puts = refl;
        lane_count = is.count;
        lanes = own_lane part shelf is low;
      })

  -- and the part begins with it
  pub part_new : (shelves : List ShelfView) (me : CallerView PartState)
      → AreMadeShelves config key_width value_width lanes config.parts shelves → BeginsAll shelves me
      → (part : ℕ) → part < config.parts → IsNewPart config part key_width value_width readers me
  part_new shelves me are begins part low =
      let it = are.each part low in record {
        shelf = it.0;
        new = new_of_made part it.0 it.2 low;
        begins = begins part it.0 it.1;
      }

-- readers of a new store's workers are new readers of its cache
pub opened_readers : (view blank : CacheBlankView) (store heads : Config) (workers : List WorkerState)
    (readers : List CacheReaderView) → view ≡ blank → IsStoreOf view.config store → heads ≡ store
    → ((number : ℕ) (reader : CacheReaderView) → slice_get readers number ≡ Some reader
    → IsNewReader view.config heads workers number reader)
    → worker_sheets_of workers ≡ worker_sheets 0 store.workers
    → All (λ worker. worker.sender.capacity ≡ store.capacity) workers → AreNewReaders blank.config readers
opened_readers view blank store heads workers readers same store_of words made new_workers capacity =
    subst (λ (b : CacheBlankView). AreNewReaders b.config readers) same (record {
      store = store;
      workers = workers;
      store_of = store_of;
      made = λ number reader had.
          subst (λ (config : Config). IsNewReader view.config config workers number reader) words
          (made number reader had);
      new_workers = new_workers ∙ ap (λ (count : ℕ). worker_sheets 0 count) store_of.workers;
      capacity = subst (λ (most : ℕ). All (λ (worker : WorkerState). worker.sender.capacity ≡ most) workers)
          store_of.capacity capacity;
    })

-- the shelves that were made are as wide as they were to be
pub shelves_wide : (config : CacheConfig) (key_width value_width count : ℕ) (lanes : List LaneView)
    (shelves : List ShelfView) → AreMadeShelves config key_width value_width lanes count shelves
    → All (IsWide key_width value_width) shelves
shelves_wide config key_width value_width count lanes shelves are = λ k none low.
    let had : slice_get shelves k ≡ Some (get_or shelves k none) = slice_get-get_or shelves k none low in
    let it = are.each k (omega (arith, low, are.count_is)) in
    let both : Some it.0 ≡ Some (get_or shelves k none) = sym it.1 ∙ had in
    let same : it.0 ≡ get_or shelves k none = cc both in
    subst (IsWide key_width value_width) (sym it.2.made ∙ same) (refl, refl)
