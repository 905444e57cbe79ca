-- What is told of the next item that has expired, and of the one whose turn it is.
use Rattle.std.specs.Prelude.{◌≡◌, ℕ, List, Option, None, Some, IfSome, IfNone}
use Rattle.cache_part.specs.Parts.{PartView, IsUnder, IsUnknown, counted}
use Rattle.cache_part.specs.Putting.{EvictsAndReads}
use Rattle.cache_part.specs.Taking.{TakesNext}
use Rattle.cache_shelf.specs.Entries.{AllKept}
use Rattle.cache_shelf.specs.Shelves.{ShelfView, with_evicted, with_taken}
use Rattle.call_log.specs.Calls.{CallerView, MakesOne}
use Rattle.bump_cache.specs.declared.answers.Cause.TheVariants.{Expired}
use Rattle.bump_cache.specs.declared.answers.Evicted.{Evicted}
use Rattle.bump_cache.specs.Putting.{WasEvicted, evicted_key}
use Rattle.bump_cache.specs.States.{PartState, from_of, part_called, to_of}

-- of at most so many chunks in turn the first that had an item which has expired had that of this key, which ended; or
-- none had one, and nothing changed but where the next looks begin, and what the class's seat notes of its loads
abbrev pub TakesKey : Option (List ℕ) → ℕ → ℕ → PartView → PartView → Type 0
TakesKey None most now before after = TakesNext most now None before after
TakesKey (Some key) most now before after =
    (chunk : ℕ) × IsUnder key chunk before × TakesNext most now (Some chunk) before after

-- The next item that had expired ended, if there was one: what it was is told, nothing is under its key now, and under
-- each other key stays what was there.
pub record TakesValue {K V : Type 0} (key_words : K → List ℕ) (value_words : V → List ℕ) (now : ℕ)
    (told : Option (Evicted K V)) (before after : ShelfView) : Type 0 where
  pub evicted : IfSome told (λ it. WasEvicted key_words value_words it now before.part after.part)
  pub expired : IfSome told (λ it. it.cause ≡ Expired)
  pub kept : AllKept (evicted_key key_words told) before.part after.part
  pub takes : TakesKey (evicted_key key_words told) before.limits.looks now before.part after.part
  pub same : after ≡ with_taken after before

-- One call, of the part of this number, whose next such item ended.
pub record TakesOfPart {K V : Type 0} (key_words : K → List ℕ) (value_words : V → List ℕ) (number now : ℕ)
    (told : Option (Evicted K V)) (me me' : CallerView PartState) : Type 0 where
  pub call : MakesOne me me'
  pub part : part_called me' ≡ number
  pub takes : TakesValue key_words value_words now told (from_of me') (to_of me')

-- the item of this key was evicted, whose turn it was, as for a put of a new key into a part that is full
abbrev pub EvictsKey : List ℕ → ℕ → ShelfView → ShelfView → Type 0
EvictsKey key now before after = (chunk : ℕ) × IsUnder key chunk before.part
    × EvictsAndReads before.limits.most now chunk (counted before.part) before.lanes (counted after.part) after.lanes

-- The item whose turn it was was evicted: what it was is told, and why, nothing is under its key now, and under each
-- other key stays what was there. Or no key had an item, and nothing changed.
pub record EvictsValue {K V : Type 0} (key_words : K → List ℕ) (value_words : V → List ℕ) (now : ℕ)
    (told : Option (Evicted K V)) (before after : ShelfView) : Type 0 where
  pub evicted : IfSome told (λ it. WasEvicted key_words value_words it now before.part after.part)
  pub turn : IfSome told (λ it. EvictsKey (key_words it.key) now before after)
  pub none : IfNone told ((key : List ℕ) → IsUnknown key before.part)
  pub still : IfNone told (after ≡ before)
  pub kept : AllKept (evicted_key key_words told) before.part after.part
  pub same : after ≡ with_evicted after before

-- One call, of the part of this number, whose item was evicted.
pub record EvictsOfPart {K V : Type 0} (key_words : K → List ℕ) (value_words : V → List ℕ) (number now : ℕ)
    (told : Option (Evicted K V)) (me me' : CallerView PartState) : Type 0 where
  pub call : MakesOne me me'
  pub part : part_called me' ≡ number
  pub evicts : EvictsValue key_words value_words now told (from_of me') (to_of me')
