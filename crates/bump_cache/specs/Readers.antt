-- What contracts see of the readers of a cache, and what their calls come to.
use Rattle.std.specs.Prelude.{◌≡◌, ℕ, List, length, map, slice_get, slice_set, Some}
use Rattle.bump_steps.specs.declared.views.HoldSheet.{HoldSheet}
use Rattle.bump_steps.specs.Rule.{RowPredicate}
use Rattle.bump_ring.specs.Ends.{Ring}
use Rattle.cache_readers.specs.Looks.{Finds, HasWords, Hits, Peeks, Sees}
use Rattle.cache_readers.specs.declared.misses.Miss.{Miss}
use Rattle.cache_readers.specs.Readers.{Misses, ReadsMissed, ReaderView}
use Rattle.keyed_hash.specs.declared.seed.Seed.{Seed}
use Rattle.keyed_hash.specs.Hashes.{full_hash_of, hash_of}
use Rattle.cache_config.specs.Choosing.{part_of}

-- the seed of the keys' hashes, and a reader of each part, by number
pub record CacheReaderView : Type 0 where
  pub seed : Seed
  pub parts : List ReaderView

-- these readers, with this seed
abbrev pub readers_by : Seed → List ReaderView → CacheReaderView
readers_by seed parts = record { seed = seed; parts = parts }

-- the part that a key is of
abbrev pub part_for : List ℕ → CacheReaderView → ℕ
part_for key reader = part_of (length reader.parts) (full_hash_of reader.seed key)

-- The reader of the key's part does this, and those of the other parts stay as they are.
pub record InPart (Does : ReaderView → ReaderView → Type 0) (key : List ℕ) (before after : CacheReaderView) : Type 0
  where
    pub from : ReaderView
    pub to : ReaderView
    pub was : slice_get before.parts (part_for key before) ≡ Some from
    pub does : Does from to
    pub others : after ≡ record before { parts = slice_set before.parts (part_for key before) to }

-- The reader of the key's part found nothing, by the key's hash with this seed, for what it tells of its last miss: of each
-- lane, that at some moment it had no item of the key; or that its item was held, and had expired; or that a thousand
-- searches ended at lives that had ended.
abbrev pub MissesKey : Seed → List ℕ → ℕ → ReaderView → ReaderView → Type 0
MissesKey seed key now = ReadsMissed (hash_of seed key) key now

-- A get of a key of this hash found nothing, counted a miss, and noted why.
pub record MissesBy (hash : ℕ) (key : List ℕ) (now : ℕ) (before after : ReaderView) : Type 0 where
  pub missed : Misses key now before after
  pub absent : ReadsMissed hash key now before after

-- by its hash with this seed
abbrev pub MissesItem : Seed → List ℕ → ℕ → ReaderView → ReaderView → Type 0
MissesItem seed key = MissesBy (hash_of seed key) key

-- why a part's reader found nothing when it last did
abbrev pub missed_of : ReaderView → Miss
missed_of reader = reader.missed

-- the rings into which it sends, by part
abbrev pub rings_of : CacheReaderView → List Ring
rings_of reader = map (λ (part : ReaderView). part.worker.sender.ring) reader.parts

-- its rings are those that it had
abbrev pub KeepsRings : CacheReaderView → CacheReaderView → Type 0
KeepsRings before after = rings_of after ≡ rings_of before

-- a get found this value
abbrev pub FindsValue : RowPredicate → List ℕ → List ℕ → ℕ → ReaderView → ReaderView → Type 0
FindsValue law key value now before after =
    Finds law before.config key value now before.anew after.anew before.worker after.worker

-- a get took this hold of an item with the key, and touched it
abbrev pub HitsItem : RowPredicate → List ℕ → ℕ → HoldSheet → ReaderView → ReaderView → Type 0
HitsItem law key now hold before after =
    Hits law before.config key now before.anew after.anew before.worker after.worker hold

-- the words of some value stand in the row of the hold, from this number of its further words on
abbrev pub HoldsValue : {V : Type 0} → (V → Type 0) → (V → List ℕ) → ℕ → HoldSheet → Type 0
HoldsValue {V} fits as_words from hold = (value : V) × fits value × HasWords (as_words value) from hold.row

-- a peek found this value
abbrev pub PeeksValue : RowPredicate → List ℕ → List ℕ → ℕ → ReaderView → ReaderView → Type 0
PeeksValue law key value now before after =
    Peeks law before.config key value now before.anew after.anew before.worker after.worker

-- an item with the key that hadn't expired was held, or a glance found it, and nothing else was done
abbrev pub SeesItem : RowPredicate → List ℕ → ℕ → ReaderView → ReaderView → Type 0
SeesItem law key now before after =
    Sees law before.config key now before.anew after.anew before.worker after.worker
