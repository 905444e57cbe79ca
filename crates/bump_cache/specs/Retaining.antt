-- What a closure was asked of items one after the other, and which of them ended.
use Rattle.std.specs.Prelude.{◌≡◌, ◌+◌, ◌-◌, ◌<◌, ◌≤◌, ℕ, zero, suc, Bool, true, false, List, None, Some, if◌then◌else◌, min, nat_lt}
use Rattle.call_log.specs.Calls.{CallerView, MakesOne}
use Rattle.cache_part.specs.Parts.{PartView, IsUnknown}
use Rattle.cache_part.specs.Visiting.{has_unexpired}
use Rattle.cache_shelf.specs.Entries.{OthersKept, ReadsShelf}
use Rattle.cache_shelf.specs.Shelves.{ShelfView, with_ended}
use Rattle.cache_shelf.specs.Visiting.{Entry, entry_at}
use Rattle.bump_cache.specs.Changing.{BehindLook}
use Rattle.bump_cache.specs.Putting.{EndsKey}
use Rattle.bump_cache.specs.States.{PartState, from_of, part_called, to_of}
use Rattle.bump_cache.specs.Visiting.{TellsEntry}
use Rattle.bump_cache.specs.declared.answers.Asked.{Asked}
use Rattle.bump_cache.specs.declared.answers.Asked.TheVariants as asked
use Rattle.bump_cache.specs.declared.answers.Item.{Item}
use Rattle.bump_cache.specs.declared.answers.Retained.{Retained}

-- A closure was called once, with the item of this entry, and answered whether it stays. `Calls` is the closure's own:
-- what it may answer, and be behind a call.
pub record Asks {K V F : Type 0} (fits_key : K → Type 0) (key_words : K → List ℕ) (fits_value : V → Type 0)
    (value_words : V → List ℕ) (Calls : F → Item K V → Bool → F → Type 0) (from : F) (entry : Entry) (stays : Bool)
    (to : F) : Type 0 where
  pub item : Item K V
  pub tells : TellsEntry fits_key key_words fits_value value_words item.key item.value item.expires entry
  pub calls : Calls from item stays to

-- The key's item ended: nothing is under it now, and under each other key stays what was there.
pub record TakesAway (key : List ℕ) (before after : ShelfView) : Type 0 where
  pub gone : IsUnknown key after.part
  pub others : OthersKept key None before.part after.part
  pub ends : EndsKey key before.part after.part
  pub same : after ≡ with_ended after before

-- the chunk of this place of a part
abbrev pub chunk_at : PartView → ℕ → ℕ
chunk_at part place = part.book.sheet.first + place

-- the part's chunk of this place has an item that hasn't expired, or has none
abbrev pub HasItem : Bool → ℕ → ℕ → PartView → Type 0
HasItem has place now part =
    (place < part.book.sheet.count) × (has_unexpired now part.book.sheet (chunk_at part place) ≡ has)

-- What a place came to. The part has no such place; or it has no item that hasn't expired: then nothing was asked, and
-- nothing changed. Or the closure was asked of its item, once: if that stays, nothing changed; if not, it ended.
abbrev pub AsksAt : {K V F : Type 0} → (K → Type 0) → (K → List ℕ) → (V → Type 0) → (V → List ℕ)
    → (F → Item K V → Bool → F → Type 0) → Asked → ℕ → ℕ → F → F → ShelfView → ShelfView → Type 0
AsksAt fits_key key_words fits_value value_words Calls asked.NoPlace place now from to before after =
    (before.part.book.sheet.count ≤ place) × (to ≡ from) × (after ≡ before)
AsksAt fits_key key_words fits_value value_words Calls asked.Empty place now from to before after =
    HasItem false place now before.part × (to ≡ from) × ReadsShelf before after
AsksAt fits_key key_words fits_value value_words Calls asked.Stays place now from to before after =
    HasItem true place now before.part
    × Asks fits_key key_words fits_value value_words Calls from (entry_at before.part (chunk_at before.part place)) true to
    × ReadsShelf before after
AsksAt fits_key key_words fits_value value_words Calls asked.Ended place now from to before after =
    HasItem true place now before.part
    × Asks fits_key key_words fits_value value_words Calls from (entry_at before.part (chunk_at before.part place)) false to
    × BehindLook (TakesAway (entry_at before.part (chunk_at before.part place)).key) before after

-- whether an item ended there, as a number
abbrev pub ended_of : Asked → ℕ
ended_of asked.NoPlace = 0
ended_of asked.Empty = 0
ended_of asked.Stays = 0
ended_of asked.Ended = 1

-- so many places from this one on were looked at, in order, and so many items ended
abbrev pub AsksFrom : {K V F : Type 0} → (K → Type 0) → (K → List ℕ) → (V → Type 0) → (V → List ℕ)
    → (F → Item K V → Bool → F → Type 0) → ℕ → ℕ → ℕ → ℕ → F → F → ShelfView → ShelfView → Type 0
AsksFrom fits_key key_words fits_value value_words Calls first zero now ended from to before after =
    (ended ≡ 0) × (to ≡ from) × (after ≡ before)
AsksFrom {K} {V} {F} fits_key key_words fits_value value_words Calls first (suc more) now ended from to before after =
    (between : ShelfView) × (keep : F) × (so_far : ℕ) × (did : Asked)
    × AsksFrom fits_key key_words fits_value value_words Calls first more now so_far from keep before between
    × AsksAt fits_key key_words fits_value value_words Calls did (first + more) now keep to between after
    × (ended ≡ so_far + ended_of did)

-- The places of a part from this one on were looked at, so many or up to the last one: it is told how many items ended,
-- and the place that comes next, if the part has more.
pub record AsksSome {K V F : Type 0} (fits_key : K → Type 0) (key_words : K → List ℕ) (fits_value : V → Type 0)
    (value_words : V → List ℕ) (Calls : F → Item K V → Bool → F → Type 0) (first looks now : ℕ) (told : Retained)
    (from to : F) (before after : ShelfView) : Type 0 where
  pub asks : AsksFrom fits_key key_words fits_value value_words Calls first
      (min (first + looks) before.part.book.sheet.count - first) now told.ended from to before after
  pub next : told.next ≡ (if nat_lt (first + looks) before.part.book.sheet.count then Some (first + looks) else None)

-- One call did so, in the part of this number.
pub record AsksOfPart {K V F : Type 0} (fits_key : K → Type 0) (key_words : K → List ℕ) (fits_value : V → Type 0)
    (value_words : V → List ℕ) (Calls : F → Item K V → Bool → F → Type 0) (number first looks now : ℕ)
    (told : Retained) (from to : F) (me me' : CallerView PartState) : Type 0 where
  pub call : MakesOne me me'
  pub part : part_called me' ≡ number
  pub asks : AsksSome fits_key key_words fits_value value_words Calls first looks now told from to (from_of me')
      (to_of me')
