-- What puts and removals do, by keys and values as words, and by the times at which these expire.
use Rattle.std.specs.Prelude.{◌≡◌, ℕ, Bool, true, false, if◌then◌else◌, List, ◌∷◌, ◌++◌, Option, None, Some, IfSome, is_some, option_map}
use Rattle.cache_part.specs.Parts.{PartView, IsItem, IsUnknown}
use Rattle.cache_part.specs.Putting.{FindsNoRoom, Puts, Removes}
use Rattle.cache_shelf.specs.Entries.{AllKept, Keeps, OthersKept}
use Rattle.cache_shelf.specs.Shelves.{ShelfView, with_ended}
use Rattle.cache_shelf.specs.Turns.{PutsInTurn}
use Rattle.bump_rules.specs.Expiry.{has_expired}
use Rattle.bump_cache.specs.declared.answers.Cause.{Cause}
use Rattle.bump_cache.specs.declared.answers.Cause.TheVariants.{Expired, Room}
use Rattle.bump_cache.specs.declared.answers.Evicted.{Evicted}
use Rattle.bump_cache.specs.declared.answers.NoRoom.{NoRoom}
use Rattle.bump_cache.specs.declared.answers.Put.{Put}

-- this value was kept under the key, and hadn't expired; or nothing was, but what had expired
abbrev pub HadValue : List ℕ → Option (List ℕ) → ℕ → PartView → Type 0
HadValue key None now part =
    (value : List ℕ) (expires : ℕ) → Keeps key value expires part → has_expired expires now ≡ true
HadValue key (Some value) now part = (expires : ℕ) × (has_expired expires now ≡ false) × Keeps key value expires part

-- why an item that expires at this time is evicted now
abbrev pub cause_of : ℕ → ℕ → Cause
cause_of expires now = if has_expired expires now then Expired else Room

-- the words of the key of what was evicted, if something was
abbrev pub evicted_key : {K V : Type 0} → (K → List ℕ) → Option (Evicted K V) → Option (List ℕ)
evicted_key {K} {V} key_words evicted = option_map (λ (it : Evicted K V). key_words it.key) evicted

-- What was evicted was kept under its key, until a time by which its cause is told, and nothing is kept there now.
pub record WasEvicted {K V : Type 0} (key_words : K → List ℕ) (value_words : V → List ℕ) (it : Evicted K V) (now : ℕ)
    (before after : PartView) : Type 0 where
  pub expires : ℕ
  pub kept : Keeps (key_words it.key) (value_words it.value) expires before
  pub cause : it.cause ≡ cause_of expires now
  pub gone : IsUnknown (key_words it.key) after

-- An item with this key, value and time was put, in turn: the key's old item ended, if it had one, also one that had
-- expired, and one other was evicted, if one was.
pub record PutsRow (key value : List ℕ) (expires now : ℕ) (has_evicted : Bool) (before after : ShelfView) : Type 0 where
  pub old : Option ℕ
  pub item : IsItem key old before.part
  pub evicted : Option ℕ
  pub told_evicted : is_some evicted ≡ has_evicted
  pub chunk : ℕ
  pub puts : PutsInTurn (Puts old evicted (key ++ value) expires now chunk) now before after

-- No room was found for an item with this key, in turn, for which one other was evicted, if one was.
pub record RefusesRow (key : List ℕ) (now : ℕ) (has_evicted : Bool) (before after : ShelfView) : Type 0 where
  pub evicted : Option ℕ
  pub told_evicted : is_some evicted ≡ has_evicted
  pub refuses : PutsInTurn (FindsNoRoom key evicted now) now before after

-- A value was put under the key, in turn, which expires at this time: the key has it, what the key had and what was
-- evicted is told, and under each other key stays what was there.
pub record PutsValue {K V : Type 0} (key_words : K → List ℕ) (value_words : V → List ℕ) (key : K) (value : V)
    (expires now : ℕ) (did : Put K V) (before after : ShelfView) : Type 0 where
  pub kept : Keeps (key_words key) (value_words value) expires after.part
  pub old : HadValue (key_words key) (option_map value_words did.old) now before.part
  pub evicted : IfSome did.evicted (λ it. WasEvicted key_words value_words it now before.part after.part)
  pub others : OthersKept (key_words key) (evicted_key key_words did.evicted) before.part after.part
  pub puts : PutsRow (key_words key) (value_words value) expires now (is_some did.evicted) before after

-- No room was found for a value under the key, in turn: what was evicted is told, and under each other key, and under
-- this one, stays what was there.
pub record RefusesValue {K V : Type 0} (key_words : K → List ℕ) (value_words : V → List ℕ) (key : K) (now : ℕ)
    (why : NoRoom K V) (before after : ShelfView) : Type 0 where
  pub evicted : IfSome why.evicted (λ it. WasEvicted key_words value_words it now before.part after.part)
  pub stay : AllKept (evicted_key key_words why.evicted) before.part after.part
  pub refuses : RefusesRow (key_words key) now (is_some why.evicted) before after

-- the key's item ended, also where it had expired, and the others stay in their lists, in their order; or the key had
-- none, and nothing changed but what the class's seat notes of its loads
abbrev pub EndsKey : List ℕ → PartView → PartView → Type 0
EndsKey key before after = (chunk : Option ℕ) × Removes key chunk before after

-- The key's item ended, if it had one: what the key had is told, nothing is under it now, and under each other key
-- stays what was there.
pub record RemovesValue {K V : Type 0} (key_words : K → List ℕ) (value_words : V → List ℕ) (key : K) (now : ℕ)
    (told : Option V) (before after : ShelfView) : Type 0 where
  pub old : HadValue (key_words key) (option_map value_words told) now before.part
  pub gone : IsUnknown (key_words key) after.part
  pub others : OthersKept (key_words key) None before.part after.part
  pub ends : EndsKey (key_words key) before.part after.part
  pub same : after ≡ with_ended after before

-- these words are a time and then those of some value
abbrev pub IsTimedValue : {V : Type 0} → (V → Type 0) → (V → List ℕ) → List ℕ → Type 0
IsTimedValue {V} fits as_words words = (expires : ℕ) × (value : V) × fits value × (words ≡ expires ∷ as_words value)

-- these words are those of some key and then of some value
abbrev pub IsPairOfWords : {K V : Type 0} → (K → Type 0) → (K → List ℕ) → (V → Type 0) → (V → List ℕ) → List ℕ → Type 0
IsPairOfWords {K} {V} fits_key key_words fits_value value_words words = (key : K) × (value : V) × fits_key key
    × fits_value value × (words ≡ key_words key ++ value_words value)

-- These words are a time and then a value's: it is told where it hasn't expired, and else none is.
pub record TellsValue {V : Type 0} (fits : V → Type 0) (as_words : V → List ℕ) (words : List ℕ) (now : ℕ)
    (told : Option V) : Type 0 where
  pub value : V
  pub expires : ℕ
  pub value_fits : fits value
  pub has_words : words ≡ expires ∷ as_words value
  pub tells : told ≡ (if has_expired expires now then None else Some value)

-- This row is a time and then the words of a key and of a value, which are told, and its cause by the time.
pub record TellsEvicted {K V : Type 0} (fits_key : K → Type 0) (key_words : K → List ℕ) (fits_value : V → Type 0)
    (value_words : V → List ℕ) (row : List ℕ) (now : ℕ) (it : Evicted K V) : Type 0 where
  pub expires : ℕ
  pub key_fits : fits_key it.key
  pub value_fits : fits_value it.value
  pub has_row : row ≡ expires ∷ (key_words it.key ++ value_words it.value)
  pub cause : it.cause ≡ cause_of expires now
