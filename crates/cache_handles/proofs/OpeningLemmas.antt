-- A cache of byte strings that was opened: its readers and its parts.
use Rattle.std.proofs.Common.{◌≡◌, ℕ, ◌<◌, ◌++◌, List, [], ◌∷◌, map, get_or, Option, Some, All, option_map, refl, sym, ap, ◌∙◌, subst, arith}
use Rattle.std.specs.List.{slice_get}
use Rattle.std.proofs.lemmas.List.{append_assoc, length-map, map-append}
use Rattle.std.proofs.lemmas.Option.{slice_get-get_or}
use Rattle.bump_rules.specs.declared.configs.Config.{Config}
use Rattle.bump_class.specs.Lanes.{LaneView}
use Rattle.bump_unlocked.specs.UnlockedStore.{raw_rings}
use Rattle.bump_unlocked.specs.Workers.{WorkerState, worker_sheets_of, worker_rings}
use Rattle.bump_steps.specs.Rule.{worker_sheets}
use Rattle.cache_readers.specs.Readers.{ReaderView}
use Rattle.cache_shelf.specs.Shelves.{ShelfView}
use Rattle.cache_config.specs.declared.config.CacheConfig.{CacheConfig}
use Rattle.cache_config.specs.Configs.{IsStoreOf}
use Rattle.cache_config.specs.Making.{AreMadeShelves, AreRows, chunks_before}
use Rattle.bump_cache.specs.Opening.{AreNewReaders, IsNewShelf}
use Rattle.bump_cache.specs.Readers.{readers_by}
use Rattle.bump_cache.proofs.NewParts.{new_of_made}
use Rattle.bump_cache.proofs.NewReaders.{rows_all}
use Rattle.cache_handles.specs.declared.config.ByteConfig.{ByteConfig}
use Rattle.cache_handles.specs.Configs.{key_words_of, value_words_of}
use Rattle.cache_handles.specs.Opening.{IsShelfFor}

-- One more was made, of the first that was to come.
pub made_one : {A B : Type 0} (f : A → B) (made pushed : List (Option A)) (x : A) (y : B)
    (coming rest all : List (Option B)) → pushed ≡ made ++ (Some x ∷ []) → f x ≡ y → coming ≡ Some y ∷ rest
    → map (option_map f) made ++ coming ≡ all → map (option_map f) pushed ++ rest ≡ all
made_one f made pushed x y coming rest all is same next so_far =
    ap (λ (parts : List (Option _)). map (option_map f) parts ++ rest) is
    ∙ (ap (λ (parts : List (Option _)). parts ++ rest) (map-append (option_map f) made (Some x ∷ []))
    ∙ (append_assoc (map (option_map f) made) (Some (f x) ∷ []) rest
    ∙ (ap (λ part. map (option_map f) made ++ (Some part ∷ rest)) same
    ∙ (ap (λ (parts : List (Option _)). map (option_map f) made ++ parts) (sym next) ∙ so_far))))

-- readers of a new store's workers are new readers of its cache
pub readers_new : (config : CacheConfig) (store heads : Config) (workers : List WorkerState)
    (rows : List (List ReaderView)) → IsStoreOf config store → heads ≡ store
    → AreRows heads (chunks_before config) config.readers config.parts workers rows
    → worker_sheets_of workers ≡ worker_sheets 0 store.workers
    → All (λ worker. worker.sender.capacity ≡ store.capacity) workers
    → AreNewReaders config (map (readers_by config.seed) rows)
readers_new config store heads workers rows store_of same are new_workers capacity = record {
  store = store;
  workers = workers;
  store_of = store_of;
  made = λ number reader had. rows_all config store workers rows config.parts number reader refl
      (subst (λ (k : Config). AreRows k (chunks_before config) config.readers config.parts workers rows) same are) had;
  new_workers = new_workers ∙ ap (λ (count : ℕ). worker_sheets 0 count) store_of.workers;
  capacity = subst (λ (most : ℕ). All (λ (worker : WorkerState). worker.sender.capacity ≡ most) workers)
      store_of.capacity capacity;
}

-- the shelves that were made are as wide as the longest keys and values need
pub shelves_for : (config : ByteConfig) (key_width value_width count : ℕ) (lanes : List LaneView)
    (shelves : List ShelfView) → key_width ≡ key_words_of config → value_width ≡ value_words_of config
    → AreMadeShelves config.cache key_width value_width lanes count shelves → All (IsShelfFor config) shelves
shelves_for config key_width value_width count lanes shelves key_wide value_wide are = λ k none low.
    let had : slice_get shelves k ≡ Some (get_or shelves k none) = slice_get-get_or shelves k none low in
    let it = are.each k (omega (arith, low, are.count_is)) in
    let both : Some it.0 ≡ Some (get_or shelves k none) = sym it.1 ∙ had in
    let same : it.0 ≡ get_or shelves k none = cc both in
    subst (IsShelfFor config) (sym it.2.made ∙ same)
    (record { key_words = key_wide; value_words = value_wide; seed = refl })

-- the shelf of each part is new
pub shelves_new : (config : CacheConfig) (store : Config) (workers : List WorkerState) (lanes : List LaneView)
    (rows : List (List ReaderView)) (key_width value_width keys values : ℕ) (shelves : List ShelfView)
    → worker_rings workers ≡ raw_rings lanes
    → AreRows store (chunks_before config) config.readers config.parts workers rows
    → AreMadeShelves config key_width value_width lanes config.parts shelves → key_width ≡ keys → value_width ≡ values
    → (part : ℕ) → part < config.parts → (shelf : ShelfView) × (slice_get shelves part ≡ Some shelf)
    × IsNewShelf config part keys values (map (readers_by config.seed) rows) shelf
shelves_new config store workers lanes rows key_width value_width keys values shelves rings rows_are are key_wide value_wide = λ part low.
    let readers = map (readers_by config.seed) rows in
    let it = are.each part low in (
      it.0,
      it.1,
      subst (λ (width : ℕ). IsNewShelf config part width values readers it.0) key_wide
          (subst (λ (width : ℕ). IsNewShelf config part key_width width readers it.0) value_wide
          (new_of_made config store workers lanes readers rings (λ number reader had. rows_all config store workers rows
          config.parts number reader refl rows_are had) (length-map _ _ ∙ rows_are.count) key_width value_width part it.0
          it.2 low)),
    )
