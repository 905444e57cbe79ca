-- The entries of a part are visited that haven't expired.
use Rattle.std.specs.Prelude.{◌≡◌, ◌≢◌, ⊤, ℕ, false, List, [], ◌∷◌, map}
use Rattle.std.specs.List.{Contains}
use Rattle.bump_steps.specs.Views.{last_label}
use Rattle.cache_part.specs.Keys.{key_at, value_at}
use Rattle.cache_part.specs.Parts.{PartView}
use Rattle.cache_part.specs.Visiting.{unexpired_among, unexpired_chunks}
use Rattle.bump_rules.specs.Expiry.{has_expired}
use Rattle.cache_shelf.specs.Entries.{Keeps}

-- the words of a key, those of its value, and when it expires
pub record Entry : Type 0 where
  pub key : List ℕ
  pub value : List ℕ
  pub expires : ℕ

-- the entry of a chunk
abbrev pub entry_at : PartView → ℕ → Entry
entry_at part chunk = record {
  key = key_at part.key_words part.book.sheet chunk;
  value = value_at part.key_words part.value_words part.book.sheet chunk;
  expires = last_label part.book.sheet chunk;
}

-- the entries of the class's first chunks, so many, that are linked and haven't expired at this time, in the order of
-- the chunks' numbers
abbrev pub first_unexpired : ℕ → PartView → ℕ → List Entry
first_unexpired now part count =
    map (entry_at part) (unexpired_among now part.book.sheet part.book.sheet.first count)

-- those of all its chunks
abbrev pub unexpired_entries : ℕ → PartView → List Entry
unexpired_entries now part = map (entry_at part) (unexpired_chunks now part.book.sheet)

-- it is kept, and hasn't expired at this time
abbrev pub IsUnexpired : ℕ → PartView → Entry → Type 0
IsUnexpired now part entry =
    (has_expired entry.expires now ≡ false) × Keeps entry.key entry.value entry.expires part

-- no two of these have one key
abbrev pub KeysDiffer : List Entry → Type 0
KeysDiffer [] = ⊤
KeysDiffer (entry ∷ more) =
    ((other : Entry) → Contains more other → entry.key ≢ other.key) × KeysDiffer more

-- These are the entries that the part keeps and that haven't expired at this time: each of them is, each that is is
-- among them, none has the key of another one, and they have the order of the class's chunks.
pub record AreUnexpired (now : ℕ) (entries : List Entry) (part : PartView) : Type 0 where
  pub kept : (entry : Entry) → Contains entries entry → IsUnexpired now part entry
  pub all : (entry : Entry) → IsUnexpired now part entry → Contains entries entry
  pub once : KeysDiffer entries
  pub order : entries ≡ unexpired_entries now part
