-- The items of a part of byte strings are visited, chunk by chunk.
use Rattle.std.specs.Prelude.{◌≡◌, ℕ, suc, ◌+◌, ◌<◌, ◌≤◌, List, length, slice_index, Option, None, IfNone, IfSome, is_some}
use Rattle.cache_part.specs.Putting.{row_at}
use Rattle.cache_part.specs.Visiting.{has_unexpired}
use Rattle.cache_shelf.specs.Entries.{ReadsShelf}
use Rattle.cache_handles.specs.declared.visiting.EntryTold.{EntryTold}
use Rattle.cache_handles.specs.Rows.{TellsValue, eight_words}
use Rattle.cache_handles.specs.Views.{BytePartView}

-- The words of an item, which are the time at which it expires, its key and its value, tell this beside their bytes: the
-- key has so many words, of which the first is its length.
pub record IsEntry (key_words : ℕ) (words : List ℕ) (told : EntryTold) : Type 0 where
  pub expires_is : told.expires ≡ slice_index words 0
  pub key_length_is : told.key_length ≡ slice_index words 1
  pub value : TellsValue (λ i. slice_index words (suc key_words + i)) told.value.flags told.value.length

-- the chunk of a part with this number
abbrev pub chunk_of : BytePartView → ℕ → ℕ
chunk_of part number = part.shelf.part.book.sheet.first + number

-- What was visited: the item of this chunk is told by its words; or there is none, and the words stay.
pub record Visits (now chunk : ℕ) (before after : BytePartView) (answer : Option EntryTold) : Type 0 where
  pub told : is_some answer ≡ has_unexpired now before.shelf.part.book.sheet chunk
  pub read : IfSome answer (λ entry. after.entry ≡ row_at before.shelf.part chunk)
  pub entry : IfSome answer (λ entry. IsEntry before.shelf.part.key_words after.entry entry)
  pub stays : IfNone answer (after.entry ≡ before.entry)
  pub reads : ReadsShelf before.shelf after.shelf

-- What a visit of the chunk with this number comes to: the part has so many chunks or fewer, and nothing is changed; or
-- its item is told where it has one that hasn't expired.
pub record TellsEntry (number now : ℕ) (before after : BytePartView) (answer : Option EntryTold) : Type 0 where
  pub none : before.shelf.part.book.sheet.count ≤ number → (answer ≡ None) × (after ≡ before)
  pub visits : number < before.shelf.part.book.sheet.count → Visits now (chunk_of before number) before after answer
  pub rest : after ≡ record before { shelf = after.shelf; entry = after.entry }

-- eight words of the bytes of the key of what was visited last, from one on
abbrev pub entry_key_words : BytePartView → ℕ → List ℕ
entry_key_words part from = eight_words (slice_index part.entry) (from + 2) (suc part.shelf.part.key_words)

-- and of those of its value
abbrev pub entry_value_words : BytePartView → ℕ → List ℕ
entry_value_words part from =
    eight_words (slice_index part.entry) (from + (part.shelf.part.key_words + 3)) (length part.entry)
