-- What a part keeps, as a table of keys and values, each of which is a list of words, and of times at which they
-- expire.
use Rattle.std.specs.Prelude.{◌≡◌, ◌≢◌, ◌↔◌, ℕ, Bool, true, false, List, ◌∷◌, Option, None, Some, IsSome, option_map}
use Rattle.bump_steps.specs.Rule.{RowPredicate}
use Rattle.bump_steps.specs.Views.{last_label}
use Rattle.cache_lists.specs.Linked.{linked_at}
use Rattle.cache_part.specs.Keys.{key_at, value_at}
use Rattle.cache_part.specs.Parts.{PartView, IsUnder, IsUnknown, OnlyReads}
use Rattle.cache_part.specs.Putting.{row_at, told_if}
use Rattle.bump_rules.specs.Expiry.{has_expired}
use Rattle.cache_shelf.specs.Shelves.{Obeys, ShelfView}

-- An item with this key is linked, this is its value, and it expires at this time.
pub record Keeps (key words : List ℕ) (expires : ℕ) (part : PartView) : Type 0 where
  pub chunk : ℕ
  pub under : IsUnder key chunk part
  pub value : value_at part.key_words part.value_words part.book.sheet chunk ≡ words
  pub label : last_label part.book.sheet chunk ≡ expires

-- Under each key but these two it keeps what it kept.
abbrev pub OthersKept : List ℕ → Option (List ℕ) → PartView → PartView → Type 0
OthersKept key evicted before after = (other value : List ℕ) (expires : ℕ) → other ≢ key → evicted ≢ Some other
    → Keeps other value expires before ↔ Keeps other value expires after

-- Under each key but this one it keeps what it kept.
abbrev pub AllKept : Option (List ℕ) → PartView → PartView → Type 0
AllKept evicted before after = (other value : List ℕ) (expires : ℕ) → evicted ≢ Some other
    → Keeps other value expires before ↔ Keeps other value expires after

-- Under each key what hasn't expired stays kept, and what it keeps it kept.
pub record AllUnexpiredKept (now : ℕ) (before after : PartView) : Type 0 where
  pub stay : (key value : List ℕ) (expires : ℕ) → has_expired expires now ≡ false → Keeps key value expires before
      → Keeps key value expires after
  pub kept : (key value : List ℕ) (expires : ℕ) → Keeps key value expires after → Keeps key value expires before

-- The item of this chunk has the key, the table's law holds of it, and these words are the time at which it expires and
-- then its value; or the old ones, where nothing is told.
pub record HadAt (tells : Bool) (law : RowPredicate) (key : List ℕ) (chunk : ℕ) (old words : List ℕ) (part : PartView)
    : Type 0 where
  pub under : IsUnder key chunk part
  pub obeys : Obeys law part chunk
  pub told : words ≡ told_if tells
      (last_label part.book.sheet chunk ∷ value_at part.key_words part.value_words part.book.sheet chunk) old

-- What the key had: this chunk's item, whose time and value are told, if anything is; or none, and the words that would
-- tell them stay.
abbrev pub HadIf : Bool → RowPredicate → List ℕ → Option ℕ → List ℕ → List ℕ → PartView → Type 0
HadIf tells law key None old words part = IsUnknown key part × (words ≡ old)
HadIf tells law key (Some chunk) old words part = HadAt tells law key chunk old words part

-- so it is where it is told
abbrev pub Had : RowPredicate → List ℕ → Option ℕ → List ℕ → List ℕ → PartView → Type 0
Had = HadIf true

-- The item of this chunk was evicted, and this is its row, which begins with the time at which it expires, or the old one,
-- where nothing is told: it was linked, the table's law holds of it, and nothing is kept under its key now.
pub record IsEvicted (tells : Bool) (law : RowPredicate) (chunk : ℕ) (old row : List ℕ) (before after : PartView)
    : Type 0 where
  pub linked : IsSome (linked_at before.book.sheet chunk)
  pub obeys : Obeys law before chunk
  pub told : row ≡ told_if tells (row_at before chunk) old
  pub unknown : IsUnknown (key_at before.key_words before.book.sheet chunk) after

-- What was evicted: this chunk's item, whose row is told, if anything is; or none, and the words that would tell it stay.
abbrev pub EvictedIf : Bool → RowPredicate → Option ℕ → List ℕ → List ℕ → PartView → PartView → Type 0
EvictedIf tells law None old row before after = row ≡ old
EvictedIf tells law (Some chunk) old row before after = IsEvicted tells law chunk old row before after

-- so it is where it is told
abbrev pub Evicted : RowPredicate → Option ℕ → List ℕ → List ℕ → PartView → PartView → Type 0
Evicted = EvictedIf true

-- the key of an evicted item, if one was evicted
abbrev pub key_of_evicted : Option ℕ → PartView → Option (List ℕ)
key_of_evicted evicted part = option_map (key_at part.key_words part.book.sheet) evicted

-- nothing changed of a shelf but what the class's seat notes of its loads
pub record ReadsShelf (before after : ShelfView) : Type 0 where
  pub part : OnlyReads before.part after.part
  pub rest : after ≡ record before { part = after.part }
