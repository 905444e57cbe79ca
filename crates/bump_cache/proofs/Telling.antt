-- What was told as words, told as keys and values.
use Rattle.std.proofs.Common.{◌≡◌, ◌+◌, ℕ, Bool, true, false, if◌then◌else◌, List, ◌∷◌, ◌++◌, length, get_or, take, drop, Option, None, Some, IfSome, IfNone, is_some, option_map, refl, sym, ap, ◌∙◌, subst}
use Rattle.std.proofs.Math.Seq.{drop-append_seam, take-append_seam}
use Rattle.bump_steps.specs.Rule.{RowPredicate}
use Rattle.bump_steps.specs.Views.{last_label, last_words}
use Rattle.cache_part.specs.Keys.{key_at, value_at, words_from}
use Rattle.cache_part.specs.Parts.{PartView, IsItem, IsPart, IsUnknown}
use Rattle.cache_part.specs.Putting.{row_at}
use Rattle.cache_shelf.specs.Entries.{Evicted as TellsRowOf, Had, HadIf, Keeps, key_of_evicted}
use Rattle.bump_rules.specs.Expiry.{has_expired}
use Rattle.packed_words.specs.Parts.{same_parts}
use Rattle.bump_cache.specs.declared.answers.Evicted.{Evicted}
use Rattle.bump_cache.specs.Changing.{HadUntil}
use Rattle.bump_cache.specs.Pairs.{IsPair}
use Rattle.bump_cache.specs.Putting.{HadValue, IsPairOfWords, IsTimedValue, TellsEvicted, TellsValue, WasEvicted, evicted_key}
use Rattle.bump_cache.proofs.PairLemmas.{IsPairRow, pair_row}

-- the first of two lists
pub first_part : (first second : List ℕ) (n : ℕ) → n ≡ length first → take n (first ++ second) ≡ first
first_part first second n long = ap (λ m. take m (first ++ second)) long ∙ take-append_seam first second

-- and the second
pub second_part : (first second : List ℕ) (n : ℕ) → n ≡ length first → drop n (first ++ second) ≡ second
second_part first second n long = ap (λ m. drop m (first ++ second)) long ∙ drop-append_seam first second

-- the chunk that had the key has its item
pub had_item : (tells : Bool) (law : RowPredicate) (key : List ℕ) (chunk : Option ℕ) (from words : List ℕ)
    (part : PartView) → HadIf tells law key chunk from words part → IsItem key chunk part
had_item tells law key None from words part had = had.0
had_item tells law key (Some c) from words part had = had.under

module _ {K V : Type 0} (fits_key : K → Type 0) (key_words : K → List ℕ) (fits_value : V → Type 0)
    (value_words : V → List ℕ) (key_width value_width : ℕ)
    (key_length : (k : K) → fits_key k → length (key_words k) ≡ key_width)
    (value_length : (v : V) → fits_value v → length (value_words v) ≡ value_width)
    (part : PartView) (wide_key : part.key_words ≡ key_width) (wide_value : part.value_words ≡ value_width) where
  -- the law of the rows
  abbrev Law : RowPredicate
  Law = IsPair fits_key key_words fits_value value_words

  -- the row of an item
  row_of : (c : ℕ) → Law (last_words part.book.sheet c)
      → IsPairRow fits_key key_words fits_value value_words key_width value_width key_length value_length part c
  row_of c obeys =
      pair_row fits_key key_words fits_value value_words key_width value_width key_length value_length part c wide_key
      wide_value obeys

  -- what is told of the key's old item are a time and then the words of a value
  pub value_told : (key : List ℕ) (chunk : Option ℕ) (from words : List ℕ)
      → Had (IsPair fits_key key_words fits_value value_words) key chunk from words part
      → IfSome chunk (λ c. IsTimedValue fits_value value_words words)
  value_told key None from words had = tt
  value_told key (Some c) from words had =
      let row = row_of c had.obeys in (
        last_label part.book.sheet c,
        row.value,
        row.value_fits,
        had.told ∙ ap (λ value. last_label part.book.sheet c ∷ value) row.at_value,
      )

  -- each item that is kept under a key is the one that has it
  one_item : IsPart part.seed part.key_words part.book.sheet part.index → (key value : List ℕ) (expires c : ℕ)
      → IsItem key (Some c) part → (kept : Keeps key value expires part) → last_label part.book.sheet c ≡ expires
  one_item is key value expires c item kept = ap (last_label part.book.sheet)
      (is.agrees.once c kept.chunk item.linked kept.under.linked (item.key ∙ sym kept.under.key)) ∙ kept.label

  -- and it is what the key had, where it hasn't expired
  pub old_told : IsPart part.seed part.key_words part.book.sheet part.index → (key : List ℕ) (chunk : Option ℕ)
      (from words : List ℕ) (now : ℕ) (told : Option V)
      → Had (IsPair fits_key key_words fits_value value_words) key chunk from words part → IfNone chunk (told ≡ None)
      → IfSome chunk (λ c. TellsValue fits_value value_words words now told)
      → HadValue key (option_map value_words told) now part
  old_told is key None from words now None had none some = λ value expires kept. absurd (had.0 kept.chunk kept.under)
  old_told is key None from words now (Some v) had none some = absurd (cc none)
  old_told is key (Some c) from words now told had none some =
      subst (λ t. HadValue key (option_map value_words t) now part) (sym some.tells)
      (by (has_expired some.expires now) refl)
    where
      both : last_label part.book.sheet c ∷ value_at part.key_words part.value_words part.book.sheet c
          ≡ some.expires ∷ value_words some.value
      both = sym had.told ∙ some.has_words

      label : last_label part.book.sheet c ≡ some.expires
      label = cc both

      by : (b : Bool) → has_expired some.expires now ≡ b
          → HadValue key (option_map value_words (if b then None else Some some.value)) now part
      by true expired = λ value expires kept. ap (λ at. has_expired at now)
          (sym (one_item is key value expires c had.under kept) ∙ label) ∙ expired
      by false fresh = (
        some.expires,
        fresh,
        record { chunk = c; under = had.under; value = cc both; label = label },
      )

  -- so it is with the time, which is the first of the words
  pub until_told : (key : List ℕ) (chunk : Option ℕ) (from words : List ℕ) (now : ℕ) (value : V) (word : ℕ)
      → Had (IsPair fits_key key_words fits_value value_words) key chunk from words part
      → IfNone chunk (Some value ≡ None) → IfSome chunk (λ c. TellsValue fits_value value_words words now (Some value))
      → word ≡ get_or words 0 0 → HadUntil fits_value value_words key (Some (value, word)) now part
  until_told key None from words now value word had none some is = absurd (cc none)
  until_told key (Some c) from words now value word had none some is =
      by (has_expired some.expires now) refl some.tells
    where
      both : last_label part.book.sheet c ∷ value_at part.key_words part.value_words part.book.sheet c
          ≡ some.expires ∷ value_words some.value
      both = sym had.told ∙ some.has_words

      first : word ≡ some.expires
      first = is ∙ ap (λ (all : List ℕ). get_or all 0 0) some.has_words

      by : (b : Bool) → has_expired some.expires now ≡ b → Some value ≡ (if b then None else Some some.value)
          → HadUntil fits_value value_words key (Some (value, word)) now part
      by true expired tells = absurd (cc tells)
      by false fresh tells =
          let one : some.value ≡ value = cc tells in
          subst (λ v. HadUntil fits_value value_words key (Some (v, word)) now part) one
          (subst (λ w. HadUntil fits_value value_words key (Some (some.value, w)) now part) (sym first) (
            some.value_fits,
            fresh,
            record { chunk = c; under = had.under; value = cc both; label = cc both },
          ))

  -- what is told of an evicted item are a time and then the words of a key and a value
  pub entry_told : (chunk : Option ℕ) (from row : List ℕ) (after : PartView)
      → TellsRowOf (IsPair fits_key key_words fits_value value_words) chunk from row part after
      → IfSome chunk (λ c. (expires : ℕ) × (words : List ℕ) × (row ≡ expires ∷ words)
      × IsPairOfWords fits_key key_words fits_value value_words words)
  entry_told None from row after told = tt
  entry_told (Some c) from row after told =
      let it = row_of c told.obeys in (
        last_label part.book.sheet c,
        words_from 0 (part.key_words + part.value_words) part.book.sheet c,
        told.told,
        (it.key, it.value, it.key_fits, it.value_fits, it.row),
      )

  -- an item whose row tells this is the one that is told
  pub told_is : (c : ℕ) (row : List ℕ) (now : ℕ) (it : Evicted K V) → Law (last_words part.book.sheet c)
      → row ≡ row_at part c → (tells : TellsEvicted fits_key key_words fits_value value_words row now it)
      → (key_at part.key_words part.book.sheet c ≡ key_words it.key)
      × (value_at part.key_words part.value_words part.book.sheet c ≡ value_words it.value)
      × (last_label part.book.sheet c ≡ tells.expires)
  told_is c row now it obeys told tells =
      let own = row_of c obeys in
      let rows : last_label part.book.sheet c ∷ words_from 0 (part.key_words + part.value_words) part.book.sheet c
      ≡ tells.expires ∷ (key_words it.key ++ value_words it.value) = sym told ∙ tells.has_row in
      let even : length (key_words own.key) ≡ length (key_words it.key) =
      key_length own.key own.key_fits ∙ sym (key_length it.key tells.key_fits) in
      let both = same_parts (key_words own.key) (value_words own.value) (key_words it.key) (value_words it.value) even
      (sym own.row ∙ cc rows) in
      (own.at_key ∙ both.0, own.at_value ∙ both.1, cc rows)

  -- what was evicted
  pub evicted_told : (chunk : Option ℕ) (from row : List ℕ) (now : ℕ) (after : PartView) (told : Option (Evicted K V))
      → TellsRowOf (IsPair fits_key key_words fits_value value_words) chunk from row part after
      → is_some told ≡ is_some chunk
      → IfSome told (λ it. TellsEvicted fits_key key_words fits_value value_words row now it)
      → IfSome told (λ it. WasEvicted key_words value_words it now part after)
  evicted_told None from row now after None gone some is = tt
  evicted_told None from row now after (Some it) gone some is = absurd (cc some)
  evicted_told (Some c) from row now after None gone some is = tt
  evicted_told (Some c) from row now after (Some it) gone some is =
      let one = told_is c row now it gone.obeys gone.told is in record {
        expires = is.expires;
        kept = record {
          chunk = c;
          under = record { linked = gone.linked; key = one.0 };
          value = one.1;
          label = one.2;
        };
        cause = is.cause;
        gone = subst (λ key. IsUnknown key after) one.0 gone.unknown;
      }

  -- and its key
  pub key_told : (chunk : Option ℕ) (from row : List ℕ) (now : ℕ) (after : PartView) (told : Option (Evicted K V))
      → TellsRowOf (IsPair fits_key key_words fits_value value_words) chunk from row part after
      → is_some told ≡ is_some chunk
      → IfSome told (λ it. TellsEvicted fits_key key_words fits_value value_words row now it)
      → key_of_evicted chunk part ≡ evicted_key key_words told
  key_told None from row now after None gone some is = refl
  key_told None from row now after (Some it) gone some is = absurd (cc some)
  key_told (Some c) from row now after None gone some is = absurd (cc some)
  key_told (Some c) from row now after (Some it) gone some is = ap Some (told_is c row now it gone.obeys gone.told is).0
