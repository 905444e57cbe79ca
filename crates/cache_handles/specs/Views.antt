-- What contracts see of the parts of a cache of byte strings, and of its readers.
use Rattle.std.specs.Prelude.{ℕ, ◌==◌, if◌then◌else◌, nat_lt, List, length, Option, None, Some}
use Rattle.bump_steps.specs.declared.views.HoldSheet.{HoldSheet}
use Rattle.bump_steps.specs.Rule.{RowPredicate}
use Rattle.packed_words.specs.Spelling.{long_string}
use Rattle.keyed_hash.specs.declared.seed.Seed.{Seed}
use Rattle.keyed_hash.specs.Hashes.{full_hash_of}
use Rattle.cache_config.specs.Choosing.{part_of}
use Rattle.cache_shelf.specs.Shelves.{ShelfView}
use Rattle.bump_cache.specs.Readers.{CacheReaderView}
use Rattle.cache_handles.specs.declared.keys.KeyFault.{KeyFault}
use Rattle.cache_handles.specs.declared.keys.KeyFault.TheVariants.{TooLong, OtherPart}
use Rattle.cache_handles.specs.declared.keys.PartPlace.{PartPlace}

-- any words may stand in a row
abbrev pub any_row : RowPredicate
any_row = λ words. Unit {0}

-- a part: its shelf, which of how many it is, and the longest key and value, in bytes; and what a look found last, which
-- is the time at which it expires and then its value; and the same of the item that was evicted or visited last, whose key
-- stands before its value
pub record BytePartView : Type 0 where
  pub shelf : ShelfView
  pub place : PartPlace
  pub key_bytes : ℕ
  pub value_bytes : ℕ
  pub found : List ℕ
  pub entry : List ℕ

-- a reader: what it reads by; the longest key in bytes; the words of a key and of a value; and what stands in each of its
-- places
pub record ByteReaderView : Type 0 where
  pub reader : CacheReaderView
  pub key_bytes : ℕ
  pub key_words : ℕ
  pub value_words : ℕ
  pub holds : List (Option HoldSheet)

-- what is still to be taken out of a cache that was opened, by numbers from 0: None where it is taken
pub record OpenedCacheView : Type 0 where
  pub parts : List (Option BytePartView)
  pub readers : List (Option ByteReaderView)

-- why a key isn't one of the part: it is too long, or of another part
abbrev pub key_fault : ℕ → Seed → PartPlace → ℕ → List ℕ → Option KeyFault
key_fault most seed place width key =
    if nat_lt most (length key) then Some TooLong
    else (if part_of place.parts (full_hash_of seed (long_string width key)) == place.number then None else Some OtherPart)

-- the words of a key of a part
abbrev pub key_row : BytePartView → List ℕ → List ℕ
key_row part key = long_string part.shelf.part.key_words key

-- why a part doesn't take a key
abbrev pub fault_in : BytePartView → List ℕ → Option KeyFault
fault_in part key = key_fault part.key_bytes part.shelf.part.seed part.place part.shelf.part.key_words key
