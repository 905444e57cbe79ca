-- What a call of a cache from C comes to: what the call inside does, told as C reads it.
use Rattle.std.specs.Prelude.{◌≡◌, ℕ, ◌+◌, List, length, slice_index, Option}
use Rattle.cache_shelf.specs.Shelves.{ShelfView}
use Rattle.bump_cache.specs.Tending.{ClearsShelf, TendsInTurn}
use Rattle.cache_handles.specs.declared.looking.LookTold.{LookTold}
use Rattle.cache_handles.specs.declared.putting.PutTold.{PutTold}
use Rattle.cache_handles.specs.declared.reading.GetTold.{GetTold}
use Rattle.cache_handles.specs.declared.reading.HeldTold.{HeldTold}
use Rattle.cache_handles.specs.declared.visiting.EntryTold.{EntryTold}
use Rattle.cache_handles.specs.Looking.{TellsLook}
use Rattle.cache_handles.specs.Putting.{Adds, Puts, Replaces, TellsPut, Touches, Updates}
use Rattle.cache_handles.specs.Reading.{Gets, TellsGet, TellsHold}
use Rattle.cache_handles.specs.Rows.{eight_words, value_row}
use Rattle.cache_handles.specs.Views.{BytePartView, ByteReaderView, key_row}
use Rattle.cache_handles.specs.Visiting.{TellsEntry}
use Rattle.bump_c.specs.declared.cache_answers.CacheEntry.{CacheEntry}
use Rattle.bump_c.specs.declared.cache_answers.CacheGot.{CacheGot}
use Rattle.bump_c.specs.declared.cache_answers.CacheHeld.{CacheHeld}
use Rattle.bump_c.specs.declared.cache_answers.CacheLooked.{CacheLooked}
use Rattle.bump_c.specs.declared.cache_answers.CachePut.{CachePut}
use Rattle.bump_c.specs.CacheNumbers.{entry_of, got_of, held_of, looked_of, put_of}

-- ---- a reader's calls

-- a get of the first words of what a key has
abbrev pub TellsCacheGet : List ℕ → ℕ → ByteReaderView → ByteReaderView → CacheGot → Type 0
TellsCacheGet key now before after said = (answer : GetTold) × (said ≡ got_of answer)
    × TellsGet Gets key now before after answer

-- a get that holds
abbrev pub TellsCacheHold : ℕ → List ℕ → ℕ → ByteReaderView → ByteReaderView → CacheHeld → Type 0
TellsCacheHold hold key now before after said = (answer : HeldTold) × (said ≡ held_of answer)
    × TellsHold hold key now before after answer

-- ---- a part's calls that change it

-- a call that puts so, unless the key or a value of so many bytes is refused
abbrev pub TellsPutBy : (ShelfView → ShelfView → PutTold → Type 0) → List ℕ → ℕ → BytePartView → BytePartView
    → CachePut → Type 0
TellsPutBy does key value_length before after said = (answer : PutTold) × (said ≡ put_of answer)
    × TellsPut does key value_length before after answer

-- a value is put under a key
abbrev pub TellsCachePut : List ℕ → List ℕ → ℕ → ℕ → ℕ → BytePartView → BytePartView → CachePut → Type 0
TellsCachePut key value flags expires now before after said =
    TellsPutBy (Puts (key_row before key) (value_row before.shelf.part.value_words flags value) expires now) key
    (length value) before after said

-- the same where the key has nothing
abbrev pub TellsCacheAdd : List ℕ → List ℕ → ℕ → ℕ → ℕ → BytePartView → BytePartView → CachePut → Type 0
TellsCacheAdd key value flags expires now before after said =
    TellsPutBy (Adds (key_row before key) (value_row before.shelf.part.value_words flags value) expires now) key
    (length value) before after said

-- the same where it has something
abbrev pub TellsCacheReplace : List ℕ → List ℕ → ℕ → ℕ → ℕ → BytePartView → BytePartView → CachePut → Type 0
TellsCacheReplace key value flags expires now before after said =
    TellsPutBy (Replaces (key_row before key) (value_row before.shelf.part.value_words flags value) expires now) key
    (length value) before after said

-- other bytes are put, and flags and time stay
abbrev pub TellsCacheUpdate : List ℕ → List ℕ → ℕ → BytePartView → BytePartView → CachePut → Type 0
TellsCacheUpdate key value now before after said =
    TellsPutBy (Updates before.shelf.part.value_words (key_row before key) value now) key (length value) before after
    said

-- the same value is put, until another time
abbrev pub TellsCacheTouch : List ℕ → ℕ → ℕ → BytePartView → BytePartView → CachePut → Type 0
TellsCacheTouch key expires now before after said =
    TellsPutBy (Touches (key_row before key) expires now) key 0 before after said

-- A part was tended: its shelf was, and nothing else of it changed.
pub record TendsCachePart (now : ℕ) (before after : BytePartView) : Type 0 where
  pub tends : TendsInTurn now before.shelf after.shelf
  pub rest : after ≡ record before { shelf = after.shelf }

-- A part was cleared: its shelf was, and nothing else of it changed.
pub record ClearsCachePart (before after : BytePartView) : Type 0 where
  pub clears : ClearsShelf before.shelf after.shelf
  pub rest : after ≡ record before { shelf = after.shelf }

-- ---- a part's calls that look at it

-- a look for a key
abbrev pub TellsCacheLook : List ℕ → ℕ → BytePartView → BytePartView → CacheLooked → Type 0
TellsCacheLook key now before after said = (answer : LookTold) × (said ≡ looked_of answer)
    × TellsLook key now before after answer

-- eight words of the bytes of what the last look found, from one on
abbrev pub found_words_of : BytePartView → ℕ → List ℕ
found_words_of part from = eight_words (slice_index part.found) (from + 3) (length part.found)

-- a visit of the chunk with this number
abbrev pub TellsCacheEntry : ℕ → ℕ → BytePartView → BytePartView → CacheEntry → Type 0
TellsCacheEntry number now before after said = (answer : Option EntryTold) × (said ≡ entry_of answer)
    × TellsEntry number now before after answer
