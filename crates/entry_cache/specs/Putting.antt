-- What puts and removals of entries do to their rows, by hashes and places.
use Rattle.std.specs.Prelude.{◌≡◌, ℕ, Option}
use Rattle.cache_shelf.specs.Shelves.{with_put}
use Rattle.call_log.specs.Calls.{CallerView, MakesOne}
use Rattle.bump_cache.specs.Caches.{CacheView, part_in}
use Rattle.bump_cache.specs.Putting.{PutsValue, RefusesValue, RemovesValue}
use Rattle.bump_cache.specs.States.{PartState, from_of, part_called, to_of}
use Rattle.bump_cache.specs.declared.answers.NoRoom.{NoRoom}
use Rattle.bump_cache.specs.declared.answers.Put.{Put}
use Rattle.entry_cache.specs.Entries.{EntryView}
use Rattle.entry_cache.specs.Looking.{one_word}
use Rattle.entry_cache.specs.declared.answers.Refusal.{Refusal}
use Rattle.entry_cache.specs.declared.answers.Refusal.TheVariants as refusal

-- where the entry of a put lies, what the put of its row came to, and the entry that was put
pub record PutView (K V : Type 0) : Type 0 where
  pub place : ℕ
  pub rows : Put ℕ ℕ
  pub entry : EntryView K V

-- One call, of the part of this hash, put its row: it leads to this place from now on, and never expires; and what other hashes
-- had stays, but what was evicted.
pub record PutsEntry (cache : CacheView) (hash place now : ℕ) (did : Put ℕ ℕ) (me me' : CallerView PartState) : Type 0
  where
    pub call : MakesOne me me'
    pub part : part_called me' ≡ part_in cache (one_word hash)
    pub puts : PutsValue one_word one_word hash place 0 now did (from_of me') (to_of me')
    pub same : to_of me' ≡ with_put (to_of me') (from_of me')

-- One call, of the part of this hash, found no room for its row: all that hashes had stays, but what was evicted.
pub record RefusesEntry (cache : CacheView) (hash now : ℕ) (why : NoRoom ℕ ℕ) (me me' : CallerView PartState) : Type 0
  where
    pub call : MakesOne me me'
    pub part : part_called me' ≡ part_in cache (one_word hash)
    pub refuses : RefusesValue one_word one_word hash now why (from_of me') (to_of me')
    pub same : to_of me' ≡ with_put (to_of me') (from_of me')

-- a put was refused: for want of memory, and no call was made; or for want of room
abbrev pub RefusesBy : CacheView → ℕ → ℕ → Refusal → CallerView PartState → CallerView PartState → Type 0
RefusesBy cache hash now refusal.Memory me me' = me' ≡ me
RefusesBy cache hash now (refusal.NoRoom why) me me' = RefusesEntry cache hash now why me me'

-- One call, of the part of this hash, ended its row, if there was one: the place that it led to is told, and what other hashes have
-- stays.
pub record RemovesEntry (cache : CacheView) (hash now : ℕ) (told : Option ℕ) (me me' : CallerView PartState) : Type 0
  where
    pub call : MakesOne me me'
    pub part : part_called me' ≡ part_in cache (one_word hash)
    pub removes : RemovesValue one_word one_word hash now told (from_of me') (to_of me')
