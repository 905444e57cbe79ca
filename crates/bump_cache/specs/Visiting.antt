-- What a closure was called with that visits what is kept.
use Rattle.std.specs.Prelude.{◌≡◌, ℕ, zero, suc, List}
use Rattle.std.specs.List.{FoldsTo}
use Rattle.call_log.specs.Calls.{CallerView, MakesOne}
use Rattle.cache_part.specs.Parts.{PartView}
use Rattle.cache_shelf.specs.Entries.{ReadsShelf}
use Rattle.cache_shelf.specs.Visiting.{AreUnexpired, Entry}
use Rattle.bump_cache.specs.States.{PartState, from_of, part_called, to_of}

-- These are a key and a value with the words of an entry, and the time at which it expires.
pub record TellsEntry {K V : Type 0} (fits_key : K → Type 0) (key_words : K → List ℕ) (fits_value : V → Type 0)
    (value_words : V → List ℕ) (key : K) (value : V) (expires : ℕ) (entry : Entry) : Type 0 where
  pub key_fits : fits_key key
  pub value_fits : fits_value value
  pub has_key : key_words key ≡ entry.key
  pub has_value : value_words value ≡ entry.value
  pub has_expires : expires ≡ entry.expires

-- A closure was called once, with what tells this entry. `Step` is the closure's own: what it may be behind a call.
pub record CallsWith {K V F : Type 0} (fits_key : K → Type 0) (key_words : K → List ℕ) (fits_value : V → Type 0)
    (value_words : V → List ℕ) (Step : F → K → V → ℕ → F → Type 0) (from : F) (entry : Entry) (to : F) : Type 0 where
  pub key : K
  pub value : V
  pub expires : ℕ
  pub tells : TellsEntry fits_key key_words fits_value value_words key value expires entry
  pub step : Step from key value expires to

-- A closure was called once with each entry that the part keeps and that hasn't expired at this time, one after the
-- other, and with nothing else.
pub record VisitsEach {K V F : Type 0} (fits_key : K → Type 0) (key_words : K → List ℕ) (fits_value : V → Type 0)
    (value_words : V → List ℕ) (Step : F → K → V → ℕ → F → Type 0) (now : ℕ) (from to : F) (part : PartView) : Type 0
  where
    pub entries : List Entry
    pub unexpired : AreUnexpired now entries part
    pub calls : FoldsTo (CallsWith fits_key key_words fits_value value_words Step) from entries to

-- One call, which visited the part of this number, and changed nothing but what the class's seat notes of its loads.
pub record VisitsPart {K V F : Type 0} (fits_key : K → Type 0) (key_words : K → List ℕ) (fits_value : V → Type 0)
    (value_words : V → List ℕ) (Step : F → K → V → ℕ → F → Type 0) (number now : ℕ) (from to : F)
    (me me' : CallerView PartState) : Type 0 where
  pub call : MakesOne me me'
  pub part : part_called me' ≡ number
  pub visits : VisitsEach fits_key key_words fits_value value_words Step now from to (from_of me').part
  pub reads : ReadsShelf (from_of me') (to_of me')

-- the first so many parts were visited, in order, by one call each, and the closure went from one to the next
abbrev pub VisitsParts : {K V F : Type 0} → (K → Type 0) → (K → List ℕ) → (V → Type 0) → (V → List ℕ)
    → (F → K → V → ℕ → F → Type 0) → ℕ → ℕ → F → F → CallerView PartState → CallerView PartState → Type 0
VisitsParts fits_key key_words fits_value value_words Step zero now from to me me' = (me' ≡ me) × (to ≡ from)
VisitsParts {K} {V} {F} fits_key key_words fits_value value_words Step (suc part) now from to me me' =
    (between : CallerView PartState) × (visit : F)
    × VisitsParts fits_key key_words fits_value value_words Step part now from visit me between
    × VisitsPart fits_key key_words fits_value value_words Step part now visit to between me'
