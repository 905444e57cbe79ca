-- The key and the value of a chunk, and which items have a key.
use Rattle.std.specs.Prelude.{◌≡◌, ℕ, zero, suc, List, [], ◌∷◌, Option, None, Some, IsSome}
use Rattle.bump_steps.specs.declared.views.ClassSheet.{ClassSheet}
use Rattle.bump_steps.specs.Views.{last_label, last_word}
use Rattle.cache_lists.specs.Linked.{linked_at}

-- so many further words of a chunk, from this one on, as they were stored last
abbrev pub words_from : ℕ → ℕ → ClassSheet → ℕ → List ℕ
words_from index zero class chunk = []
words_from index (suc count) class chunk =
    last_word (suc index) class chunk ∷ words_from (suc index) count class chunk

-- the row of a chunk, as it was stored last: its label, and so many further words
abbrev pub row_of : ℕ → ClassSheet → ℕ → List ℕ
row_of count class chunk = last_label class chunk ∷ words_from 0 count class chunk

-- the key of a chunk: its first further words
abbrev pub key_at : ℕ → ClassSheet → ℕ → List ℕ
key_at key_words class chunk = words_from 0 key_words class chunk

-- and the value: those behind them
abbrev pub value_at : ℕ → ℕ → ClassSheet → ℕ → List ℕ
value_at key_words value_words class chunk = words_from key_words value_words class chunk

-- An item is linked at this chunk, and its key is this.
pub record HasKey (key_words : ℕ) (wanted : List ℕ) (class : ClassSheet) (chunk : ℕ) : Type 0 where
  pub linked : IsSome (linked_at class chunk)
  pub key : key_at key_words class chunk ≡ wanted

-- this is the chunk of the key's item, or the key has none
abbrev pub IsItemOf : ℕ → List ℕ → Option ℕ → ClassSheet → Type 0
IsItemOf key_words wanted None class = (chunk : ℕ) → HasKey key_words wanted class chunk → ⊥
IsItemOf key_words wanted (Some chunk) class = HasKey key_words wanted class chunk
