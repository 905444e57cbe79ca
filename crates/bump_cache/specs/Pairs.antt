-- Rows that are those of a key and a value.
use Rattle.std.specs.Prelude.{◌≡◌, ℕ, suc, ◌<◌, ◌++◌, List, length, slice_index}

-- The further words of a row, by number behind the label, are those of some key and then those of some value.
pub record IsPair {K V : Type 0} (fits_key : K → Type 0) (key_words : K → List ℕ) (fits_value : V → Type 0)
    (value_words : V → List ℕ) (word_at : ℕ → ℕ) : Type 0 where
  pub key : K
  pub value : V
  pub key_fits : fits_key key
  pub value_fits : fits_value value
  pub words : (j : ℕ) → j < length (key_words key ++ value_words value)
      → word_at (suc j) ≡ slice_index (key_words key ++ value_words value) j
