-- What contracts see of a shelf with room for what a call packs and unpacks.
use Rattle.std.specs.Prelude.{ℕ, suc, ◌+◌, List, replicate}
use Rattle.packed_words.specs.Spelling.{words_for}
use Rattle.cache_shelf.specs.Shelves.{ShelfView}
use Rattle.cache_handles.specs.declared.keys.PartPlace.{PartPlace}

-- the shelf, which part it is of, how long its keys and values may be in bytes, the words of the key that is asked for,
-- what was found under it: when it expires, and its value; and when an item expires that was evicted or visited, and its
-- row
pub record DeskView : Type 0 where
  pub shelf : ShelfView
  pub place : PartPlace
  pub key_bytes : ℕ
  pub value_bytes : ℕ
  pub key : List ℕ
  pub had : List ℕ
  pub entry : List ℕ

-- a desk of this shelf, by which nothing was asked
abbrev pub new_desk : ShelfView → PartPlace → ℕ → ℕ → DeskView
new_desk shelf place key_bytes value_bytes = record {
  shelf = shelf;
  place = place;
  key_bytes = key_bytes;
  value_bytes = value_bytes;
  key = replicate (words_for key_bytes) 0;
  had = replicate (suc (suc (words_for value_bytes))) 0;
  entry = replicate (suc (words_for key_bytes + suc (words_for value_bytes))) 0;
}
