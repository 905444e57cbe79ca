-- What a reader of a cache of byte strings does.
use Rattle.std.specs.Prelude.{◌≡◌, ◌≢◌, ℕ, ◌+◌, ◌<◌, ◌≤◌, Bool, true, false, List, length, min, replicate, slice_get, slice_index, slice_set, None, Some}
use Rattle.bump_steps.specs.declared.views.HoldSheet.{HoldSheet}
use Rattle.bump_steps.specs.References.{word_of_row}
use Rattle.cache_readers.specs.Readers.{ReaderView, CountsHit}
use Rattle.keyed_hash.specs.declared.seed.Seed.{Seed}
use Rattle.keyed_hash.specs.Hashes.{hash_of}
use Rattle.packed_words.specs.Spelling.{long_string}
use Rattle.bump_cache.specs.Readers.{FindsValue, HitsItem, InPart}
pub use Rattle.bump_cache.specs.Readers.{MissesBy, MissesItem}
use Rattle.cache_handles.specs.declared.reading.GetTold.{GetTold}
use Rattle.cache_handles.specs.declared.reading.GetTold.TheVariants as got
use Rattle.cache_handles.specs.declared.reading.HeldTold.{HeldTold}
use Rattle.cache_handles.specs.declared.reading.HeldTold.TheVariants as held
use Rattle.cache_handles.specs.Rows.{TellsValue, eight_words}
use Rattle.cache_handles.specs.Views.{ByteReaderView, any_row}

-- the words of a key
abbrev pub key_of : ByteReaderView → List ℕ → List ℕ
key_of reader key = long_string reader.key_words key

-- the words of the value of a hold, by number, which stand behind so many of its key
abbrev pub value_word : ℕ → HoldSheet → ℕ → ℕ
value_word key_words hold i = word_of_row hold.row (key_words + i)

-- A get took this hold of an item with the key, touched it and counted a hit.
pub record HitsHeld (key : List ℕ) (now : ℕ) (hold : HoldSheet) (before after : ReaderView) : Type 0 where
  pub hits : HitsItem any_row key now hold before after
  pub counted : CountsHit before after

-- so many words of a value a get reads: its flags, its length, and eight of its bytes' words, or fewer where it has fewer
abbrev pub first_words : ℕ → ℕ
first_words value_words = min 10 value_words

-- A get found a value with these first words, by a hold or by a glance, and counted a hit. Its flags and its length are
-- told, and the words behind these two.
pub record ReadsFirst (key : List ℕ) (value_words now flags value_length : ℕ) (told : List ℕ)
    (before after : ReaderView) : Type 0 where
  pub read : List ℕ
  pub many : length read ≡ first_words value_words
  pub found : FindsValue any_row key read now before after
  pub counted : CountsHit before after
  pub value : TellsValue (slice_index read) flags value_length
  pub words : told ≡ eight_words (slice_index read) 2 (length read)

-- what a get comes to, in the reader of the key's part, by the key's hash
abbrev pub GetsBy : ℕ → List ℕ → ℕ → ℕ → GetTold → ReaderView → ReaderView → Type 0
GetsBy hash key value_words now (got.Found value words) before after =
    ReadsFirst key value_words now value.flags value.length words before after
GetsBy hash key value_words now got.Nothing before after = MissesBy hash key now before after
GetsBy hash key value_words now got.KeyBytes before after = ⊥

-- by its hash with this seed
abbrev pub Gets : Seed → List ℕ → ℕ → ℕ → GetTold → ReaderView → ReaderView → Type 0
Gets seed key = GetsBy (hash_of seed key) key

-- What reading a value comes to: exactly where the key is too long that is told, and nothing is changed; else the reader
-- of the key's part does this.
pub record TellsGet (Does : Seed → List ℕ → ℕ → ℕ → GetTold → ReaderView → ReaderView → Type 0) (key : List ℕ)
    (now : ℕ) (before after : ByteReaderView) (answer : GetTold) : Type 0 where
  pub too_long : before.key_bytes < length key → (answer ≡ got.KeyBytes) × (after ≡ before)
  pub does : length key ≤ before.key_bytes → InPart
      (Does before.reader.seed (key_of before key) before.value_words now answer) (key_of before key) before.reader
      after.reader
  pub rest : after ≡ record before { reader = after.reader }

-- What a get comes to that holds: the hold that it took stands in the place.
abbrev pub Holds : List ℕ → ℕ → ℕ → ByteReaderView → ByteReaderView → HeldTold → Type 0
Holds key place now before after (held.Found value) = (hold : HoldSheet)
    × InPart (HitsHeld key now hold) key before.reader after.reader
    × TellsValue (value_word before.key_words hold) value.flags value.length
    × (after.holds ≡ slice_set before.holds place (Some hold))
Holds key place now before after held.Nothing =
    InPart (MissesItem before.reader.seed key now) key before.reader after.reader
    × (after.holds ≡ before.holds)
Holds key place now before after other = ⊥

-- What it comes to: exactly where there is no such place, or it has a hold, that is told; and behind that exactly where
-- the key is too long. Then nothing is changed.
pub record TellsHold (place : ℕ) (key : List ℕ) (now : ℕ) (before after : ByteReaderView) (answer : HeldTold) : Type 0
  where
    pub no_place : slice_get before.holds place ≢ Some None → (answer ≡ held.NoPlace) × (after ≡ before)
    pub too_long : slice_get before.holds place ≡ Some None → before.key_bytes < length key
        → (answer ≡ held.KeyBytes) × (after ≡ before)
    pub holds : slice_get before.holds place ≡ Some None → length key ≤ before.key_bytes
        → Holds (key_of before key) place now before after answer
    pub rest : after ≡ record before { reader = after.reader; holds = after.holds }

-- this hold stands in the place
abbrev pub IsHoldAt : ℕ → ByteReaderView → HoldSheet → Type 0
IsHoldAt place reader hold = slice_get reader.holds place ≡ Some (Some hold)

-- none does, or there is no such place
abbrev pub HoldsNothing : ℕ → ByteReaderView → Type 0
HoldsNothing place reader = (hold : HoldSheet) → slice_get reader.holds place ≢ Some (Some hold)

-- What reading in place comes to: eight words of the value's bytes, from one on; or 0 where the place holds nothing.
-- Nothing is changed.
pub record TellsRead (place from : ℕ) (before after : ByteReaderView) (told : List ℕ) : Type 0 where
  pub nothing : HoldsNothing place before → told ≡ replicate 8 0
  pub held : (hold : HoldSheet) → IsHoldAt place before hold
      → told ≡ eight_words (value_word before.key_words hold) (from + 2) before.value_words
  pub same : after ≡ before

-- What giving a hold back comes to.
pub record TellsRelease (place : ℕ) (before after : ByteReaderView) (answer : Bool) : Type 0 where
  pub nothing : answer ≡ false → HoldsNothing place before × (after ≡ before)
  pub released : answer ≡ true → (hold : HoldSheet) × IsHoldAt place before hold
      × (after ≡ record before { holds = slice_set before.holds place None })
