-- Values as words, and what is told of them.
use Rattle.std.specs.Prelude.{◌≡◌, ℕ, ◌+◌, ◌-◌, ◌%◌, ◌^◌, nat_lt, if◌then◌else◌, List, [], ◌∷◌}
use Rattle.packed_words.specs.Spelling.{long_string}

-- the words of a value, so many: its flags, and then those of its bytes
abbrev pub value_row : ℕ → ℕ → List ℕ → List ℕ
value_row width flags bytes = flags ∷ long_string (width - 1) bytes

-- the word with this number, and 0 where there are only so many
abbrev pub word_or_zero : (ℕ → ℕ) → ℕ → ℕ → ℕ
word_or_zero word count number = if nat_lt number count then word number else 0

-- eight numbered words, from one on, of so many
abbrev pub eight_words : (ℕ → ℕ) → ℕ → ℕ → List ℕ
eight_words word from count =
    word_or_zero word count from ∷ word_or_zero word count (from + 1) ∷ word_or_zero word count (from + 2)
    ∷ word_or_zero word count (from + 3) ∷ word_or_zero word count (from + 4) ∷ word_or_zero word count (from + 5)
    ∷ word_or_zero word count (from + 6) ∷ word_or_zero word count (from + 7) ∷ []

-- The flags and the length of a value are told, by its numbered words.
pub record TellsValue (word : ℕ → ℕ) (flags value_length : ℕ) : Type 0 where
  pub flags_are : flags ≡ word 0 % 2 ^ 32
  pub length_is : value_length ≡ word 1
