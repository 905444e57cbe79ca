-- Items that are held: the words behind the key are those of a value.
use Rattle.std.proofs.Common.{◌≡◌, ℕ, suc, ◌+◌, List, length, sym, ap, ◌∙◌, arith}
use Rattle.std.proofs.lemmas.List.{get_or-append-add, length-append}
use Rattle.bump_steps.specs.References.{words_in}
use Rattle.cache_readers.specs.Looks.{HasWords}
use Rattle.bump_cache.specs.Pairs.{IsPair}
use Rattle.bump_cache.proofs.PairLemmas.{same_words}

-- behind the key of a row of a key and a value stand a value's words
pub value_held : {K V : Type 0} (fits_key : K → Type 0) (key_words : K → List ℕ) (fits_value : V → Type 0)
    (value_words : V → List ℕ) (key_width : ℕ) (key_length : (k : K) → fits_key k → length (key_words k) ≡ key_width)
    (row : List ℕ) → IsPair fits_key key_words fits_value value_words (words_in row)
    → (v : V) × fits_value v × HasWords (value_words v) key_width row
value_held fits_key key_words fits_value value_words key_width key_length row pair = (
  pair.value,
  pair.value_fits,
  λ i low. ap (λ n. words_in row (suc (n + i))) (sym (key_length pair.key pair.key_fits))
      ∙ (pair.words (length (key_words pair.key) + i)
      (omega (arith, low, length-append (key_words pair.key) (value_words pair.value)))
      ∙ get_or-append-add (key_words pair.key) (value_words pair.value) i 0),
)

-- as many words as a value has, which stand where the value's do, are the value's
pub words_of_value : (words value : List ℕ) (from : ℕ) (row : List ℕ) → length words ≡ length value
    → HasWords words from row → HasWords value from row → words ≡ value
words_of_value words value from row even read has =
    same_words words value even (λ i low. sym (read i low) ∙ has i (omega (arith, low, even)))
