-- What looks of a reader come to, by hashes and places.
use Rattle.std.specs.Prelude.{◌≡◌, ℕ, zero, suc, ◌<◌, ◌^◌, Bool, true, false, List, [], ◌∷◌}
use Rattle.cache_readers.specs.Readers.{CountsHit, CountsNothing, Misses, ReadsNothing}
use Rattle.bump_cache.specs.Pairs.{IsPair}
use Rattle.bump_cache.specs.Readers.{CacheReaderView, FindsValue, InPart, KeepsRings, MissesKey, PeeksValue}
use Rattle.entry_cache.specs.Entries.{EntryView, HasExpired, IsOther, LiesThere}
use Rattle.entry_cache.specs.declared.misses.EntryMiss.{EntryMiss}
use Rattle.entry_cache.specs.declared.misses.EntryMiss.TheVariants as miss

-- what holds of a hash and of a place
abbrev pub is_word : ℕ → Type 0
is_word n = n < 2 ^ 64

-- as the words of a row
abbrev pub one_word : ℕ → List ℕ
one_word n = n ∷ []

-- A get of a hash found its row, which leads to this place.
pub record GetsRow (hash now place : ℕ) (before after : CacheReaderView) : Type 0 where
  pub finds : InPart (FindsValue (IsPair is_word one_word is_word one_word) (one_word hash) (one_word place) now)
      (one_word hash) before after
  pub counted : InPart CountsHit (one_word hash) before after
  pub ring : KeepsRings before after

-- A get of a hash found no row, for what the reader tells of its last miss.
pub record GetsNoRow (hash now : ℕ) (before after : CacheReaderView) : Type 0 where
  pub missed : InPart (Misses (one_word hash) now) (one_word hash) before after
  pub absent : InPart (MissesKey before.seed (one_word hash) now) (one_word hash) before after
  pub ring : KeepsRings before after

-- A peek at a hash found its row, which leads to this place.
pub record PeeksRow (hash now place : ℕ) (before after : CacheReaderView) : Type 0 where
  pub finds : InPart (PeeksValue (IsPair is_word one_word is_word one_word) (one_word hash) (one_word place) now)
      (one_word hash) before after
  pub uncounted : InPart (CountsNothing true) (one_word hash) before after
  pub ring : KeepsRings before after

-- A peek at a hash found no row, in the same way.
pub record PeeksNoRow (hash now : ℕ) (before after : CacheReaderView) : Type 0 where
  pub nothing : InPart (ReadsNothing (one_word hash) now) (one_word hash) before after
  pub absent : InPart (MissesKey before.seed (one_word hash) now) (one_word hash) before after
  pub uncounted : InPart (CountsNothing false) (one_word hash) before after
  pub ring : KeepsRings before after

-- so many looks found a row, one after the other, each by itself
abbrev pub LooksAgain : (ℕ → CacheReaderView → CacheReaderView → Type 0) → ℕ → CacheReaderView → CacheReaderView → Type 0
LooksAgain Finds zero before after = after ≡ before
LooksAgain Finds (suc count) before after =
    (between : CacheReaderView) × (place : ℕ) × LooksAgain Finds count before between × Finds place between after

-- All of a thousand looks found rows whose entries were gone.
pub record LooksInVain (Finds : ℕ → CacheReaderView → CacheReaderView → Type 0) (before after : CacheReaderView)
    : Type 0 where
  pub count : ℕ
  pub all : count ≡ 1000
  pub again : LooksAgain Finds count before after

-- Of at most a thousand looks the last came to this, and those before it found rows whose entries were gone.
pub record LooksUntil (Finds : ℕ → CacheReaderView → CacheReaderView → Type 0)
    (Ends : CacheReaderView → CacheReaderView → Type 0) (before after : CacheReaderView) : Type 0 where
  pub count : ℕ
  pub few : count < 1000
  pub between : CacheReaderView
  pub again : LooksAgain Finds count before between
  pub ends : Ends between after

-- A look found a row, and at its place lay an entry that obeys the law, of which this holds.
pub record FindsThere {K V : Type 0} (Finds : ℕ → CacheReaderView → CacheReaderView → Type 0)
    (Holds : ℕ → EntryView K V → Type 0) (Is : EntryView K V → Type 0) (before after : CacheReaderView) : Type 0 where
  pub place : ℕ
  pub finds : Finds place before after
  pub lies : LiesThere (Holds place) Is

-- what the looks came to that found nothing: the last found no row; or all of a thousand found rows whose entries were gone;
-- or the last found a row whose entry is of another key, or has expired
abbrev pub MissesEntry : {K V : Type 0} → (ℕ → CacheReaderView → CacheReaderView → Type 0)
    → (CacheReaderView → CacheReaderView → Type 0) → (ℕ → EntryView K V → Type 0) → (K → Bool) → ℕ → EntryMiss
    → CacheReaderView → CacheReaderView → Type 0
MissesEntry Finds Misses Holds asks now miss.NoRow before after = LooksUntil Finds Misses before after
MissesEntry Finds Misses Holds asks now miss.Gone before after = LooksInVain Finds before after
MissesEntry Finds Misses Holds asks now miss.Other before after =
    LooksUntil Finds (FindsThere Finds Holds (IsOther asks)) before after
MissesEntry Finds Misses Holds asks now miss.Expired before after =
    LooksUntil Finds (FindsThere Finds Holds (HasExpired asks now)) before after
