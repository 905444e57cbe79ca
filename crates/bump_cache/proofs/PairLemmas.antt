-- Rows that are those of a key and a value.
use Rattle.std.proofs.Common.{◌≡◌, ℕ, suc, ◌+◌, ◌<◌, List, [], ◌∷◌, ◌++◌, length, get_or, refl, sym, ap, ap₂, ◌∙◌, arith}
use Rattle.std.proofs.Math.ListN.{get_or-append}
use Rattle.std.proofs.lemmas.List.{get_or-append-add, length-append}
use Rattle.bump_steps.specs.declared.views.ClassSheet.{ClassSheet}
use Rattle.bump_steps.specs.Views.{last_words}
use Rattle.bump_steps.specs.References.{words_in}
use Rattle.cache_part.specs.Keys.{key_at, value_at, words_from}
use Rattle.cache_part.specs.Parts.{PartView}
use Rattle.cache_part.proofs.KeyLemmas.{words_read}
use Rattle.cache_readers.specs.Looks.{HasWords}
use Rattle.bump_cache.specs.Pairs.{IsPair}

-- lists of one length that have the same words are the same
pub same_words : (xs ys : List ℕ) → length xs ≡ length ys → ((i : ℕ) → i < length xs → get_or xs i 0 ≡ get_or ys i 0)
    → xs ≡ ys
same_words [] [] even each = refl
same_words [] (y ∷ ys) even each = absurd (omega (arith, even))
same_words (x ∷ xs) [] even each = absurd (omega (arith, even))
same_words (x ∷ xs) (y ∷ ys) even each = ap₂ (λ a more. a ∷ more) (each 0 (omega arith))
    (same_words xs ys (omega (arith, even)) (λ i low. each (suc i) (omega (arith, low))))

module _ {K V : Type 0} (fits_key : K → Type 0) (key_words : K → List ℕ) (fits_value : V → Type 0)
    (value_words : V → List ℕ) (key_width value_width : ℕ)
    (key_length : (k : K) → fits_key k → length (key_words k) ≡ key_width)
    (value_length : (v : V) → fits_value v → length (value_words v) ≡ value_width) where
  -- so are the further words of a chunk, where a key and a value have as many
  pub record IsPairRow (part : PartView) (chunk : ℕ) : Type 0 where
    pub key : K
    pub value : V
    pub key_fits : fits_key key
    pub value_fits : fits_value value
    pub row : words_from 0 (part.key_words + part.value_words) part.book.sheet chunk ≡ key_words key ++ value_words value
    pub at_key : key_at part.key_words part.book.sheet chunk ≡ key_words key
    pub at_value : value_at part.key_words part.value_words part.book.sheet chunk ≡ value_words value

  pub pair_row : (part : PartView) (chunk : ℕ) → part.key_words ≡ key_width → part.value_words ≡ value_width
      → IsPair fits_key key_words fits_value value_words (last_words part.book.sheet chunk) → IsPairRow part chunk
  pair_row part chunk wide_key wide_value pair = record {
    key = pair.key;
    value = pair.value;
    key_fits = pair.key_fits;
    value_fits = pair.value_fits;
    row = ap (λ n. words_from 0 n class chunk) (omega (arith, all_long, long_key, long_value, wide_key, wide_value))
        ∙ words_read class chunk 0 all (λ j low. at 0 j (omega arith) ∙ pair.words j low);
    at_key = ap (λ n. words_from 0 n class chunk) (omega (arith, long_key, wide_key))
        ∙ words_read class chunk 0 first (λ j low. at 0 j (omega arith)
        ∙ (pair.words j (omega (arith, low, all_long)) ∙ get_or-append first second 0 j low));
    at_value = ap₂ (λ m n. words_from m n class chunk) (omega (arith, long_key, wide_key))
        (omega (arith, long_value, wide_value))
        ∙ words_read class chunk (length first) second (λ j low.
        pair.words (length first + j) (omega (arith, low, all_long)) ∙ get_or-append-add first second j 0);
  }
    where
      class : ClassSheet
      class = part.book.sheet

      first : List ℕ
      first = key_words pair.key

      second : List ℕ
      second = value_words pair.value

      all : List ℕ
      all = first ++ second

      long_key : length first ≡ key_width
      long_key = key_length pair.key pair.key_fits

      long_value : length second ≡ value_width
      long_value = value_length pair.value pair.value_fits

      all_long : length all ≡ length first + length second
      all_long = length-append first second

      at : (from j : ℕ) → from + j ≡ j → last_words class chunk (suc (from + j)) ≡ last_words class chunk (suc j)
      at from j same = ap (λ n. last_words class chunk (suc n)) same

  -- what was read behind the key of a row that is one is a value's words
  pub value_read : (row key value : List ℕ) → IsPair fits_key key_words fits_value value_words (words_in row)
      → length key ≡ key_width → length value ≡ value_width → HasWords value (length key) row
      → (v : V) × fits_value v × (value ≡ value_words v)
  value_read row key value pair wide_key wide_value has = (
    pair.value,
    pair.value_fits,
    same_words value second (omega (arith, wide_value, long_value)) (λ i low.
        sym (has i low) ∙ (ap (λ n. words_in row (suc (n + i))) (omega (arith, wide_key, long_key))
        ∙ (pair.words (length first + i) (omega (arith, low, all_long, wide_value, long_value))
        ∙ get_or-append-add first second i 0))),
  )
    where
      first : List ℕ
      first = key_words pair.key

      second : List ℕ
      second = value_words pair.value

      long_key : length first ≡ key_width
      long_key = key_length pair.key pair.key_fits

      long_value : length second ≡ value_width
      long_value = value_length pair.value pair.value_fits

      all_long : length (first ++ second) ≡ length first + length second
      all_long = length-append first second
