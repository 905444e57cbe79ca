-- What a closure was called with that visits what is kept.
use Rattle.std.proofs.Common.{◌≡◌, ℕ, suc, ◌+◌, ◌-◌, ◌<◌, ◌≤◌, Bool, true, false, ◌&&◌, List, [], ◌∷◌, ◌++◌, cond, length, refl, sym, ap, ap₂, ◌∙◌, subst, le-leb, lt-ltb, arith}
use Rattle.std.specs.List.{FoldsTo}
use Rattle.std.proofs.lemmas.Fn.{FoldsTo-push}
use Rattle.std.proofs.lemmas.List.{append-nil}
use Rattle.call_log.specs.Calls.{CallerView}
use Rattle.bump_class.specs.Books.{BookView}
use Rattle.bump_steps.specs.declared.views.ClassSheet.{ClassSheet}
use Rattle.bump_steps.specs.Views.{last_label, last_words, owns}
use Rattle.cache_part.specs.Keys.{key_at, value_at, words_from}
use Rattle.cache_part.specs.Parts.{PartView}
use Rattle.cache_part.specs.Putting.{row_at}
use Rattle.cache_part.specs.Visiting.{has_unexpired}
use Rattle.cache_shelf.specs.Entries.{ReadsShelf}
use Rattle.cache_shelf.specs.Shelves.{ShelfView}
use Rattle.cache_shelf.specs.Visiting.{Entry, entry_at, first_unexpired}
use Rattle.cache_shelf.proofs.Keeping.{key_stays, value_stays}
use Rattle.cache_shelf.proofs.Moving.{reads_move, reads_then}
use Rattle.cache_shelf.proofs.Visiting.{entries_more}
use Rattle.packed_words.specs.Parts.{same_parts}
use Rattle.bump_cache.specs.Pairs.{IsPair}
use Rattle.bump_cache.specs.Putting.{IsPairOfWords}
use Rattle.bump_cache.specs.States.{PartState}
use Rattle.bump_cache.specs.Visiting.{TellsEntry, VisitsPart, VisitsParts}
use Rattle.bump_cache.proofs.PairLemmas.{IsPairRow, pair_row}

module _ {K V : Type 0} (fits_key : K → Type 0) (key_words : K → List ℕ) (fits_value : V → Type 0)
    (value_words : V → List ℕ) (key_width value_width : ℕ)
    (key_length : (k : K) → fits_key k → length (key_words k) ≡ key_width)
    (value_length : (v : V) → fits_value v → length (value_words v) ≡ value_width)
    (part : PartView) (wide_key : part.key_words ≡ key_width) (wide_value : part.value_words ≡ value_width)
    (chunk : ℕ) (row : List ℕ)
    (obeys : IsPair fits_key key_words fits_value value_words (last_words part.book.sheet chunk))
    (told : row ≡ row_at part chunk) where
  own : IsPairRow fits_key key_words fits_value value_words key_width value_width key_length value_length part chunk
  own = pair_row fits_key key_words fits_value value_words key_width value_width key_length value_length part chunk
      wide_key wide_value obeys

  -- the row of an item that obeys the law is a time and then the words of a key and a value
  pub row_told : (expires : ℕ) × (words : List ℕ) × (row ≡ expires ∷ words)
      × IsPairOfWords fits_key key_words fits_value value_words words
  row_told = (
    last_label part.book.sheet chunk,
    words_from 0 (part.key_words + part.value_words) part.book.sheet chunk,
    told,
    (own.key, own.value, own.key_fits, own.value_fits, own.row),
  )

  -- and whoever reads these has its entry
  pub entry_told : (key : K) (value : V) (expires : ℕ) → fits_key key → fits_value value
      → row ≡ expires ∷ (key_words key ++ value_words value)
      → TellsEntry fits_key key_words fits_value value_words key value expires (entry_at part chunk)
  entry_told key value expires key_fits value_fits read =
      let rows : last_label part.book.sheet chunk ∷ words_from 0 (part.key_words + part.value_words) part.book.sheet chunk
      ≡ expires ∷ (key_words key ++ value_words value) = sym told ∙ read in
      let even : length (key_words own.key) ≡ length (key_words key) =
      key_length own.key own.key_fits ∙ sym (key_length key key_fits) in
      let both = same_parts (key_words own.key) (value_words own.value) (key_words key) (value_words value) even
      (sym own.row ∙ cc rows) in
      record {
        key_fits = key_fits;
        value_fits = value_fits;
        has_key = sym (own.at_key ∙ both.0);
        has_value = sym (own.at_value ∙ both.1);
        has_expires = cc rows;
      }

-- a chunk of the class is its own
pub owned_by : (class : ClassSheet) (chunk : ℕ) → class.first ≤ chunk → chunk < class.first + class.count
    → owns chunk class ≡ true
owned_by class chunk from within = ap₂ (λ a b. a && b) (le-leb class.first chunk from)
    (lt-ltb chunk (class.first + class.count) within)

-- whoever reads nothing leaves a shelf as it is
pub reads_none : (shelf : ShelfView) → ReadsShelf shelf shelf
reads_none shelf = record { part = record { looks = refl; rest = refl }; rest = refl }

-- and whoever reads twice
pub reads_more : (before between after : ShelfView) → ReadsShelf before between → ReadsShelf between after
    → ReadsShelf before after
reads_more before between after one other = record {
  part = reads_then before.part between.part after.part one.part other.part;
  rest = other.rest ∙ ap (λ (s : ShelfView). record s { part = after.part }) one.rest;
}

-- what is there is what was there before loads
module _ (before after : ShelfView) (reads : ReadsShelf before after) (chunk : ℕ) where
  pub unexpired_read : (now : ℕ)
      → has_unexpired now after.part.book.sheet chunk ≡ has_unexpired now before.part.book.sheet chunk
  unexpired_read now = ap (λ (b : BookView). has_unexpired now b.sheet chunk) reads.part.looks

  pub entry_read : entry_at after.part chunk ≡ entry_at before.part chunk
  entry_read =
      let moves = reads_move before.part after.part reads.part in
      ap₂ (λ k v. record { key = k; value = v; expires = last_label after.part.book.sheet chunk })
      (key_stays before.part after.part chunk moves.alike (λ i. moves.items.words i chunk))
      (value_stays before.part after.part chunk moves.alike (λ i. moves.items.words i chunk))
      ∙ ap (λ expires. record {
        key = key_at before.part.key_words before.part.book.sheet chunk;
        value = value_at before.part.key_words before.part.value_words before.part.book.sheet chunk;
        expires = expires;
      }) (moves.items.words 0 chunk)

  pub owned_read : owns chunk after.part.book.sheet ≡ owns chunk before.part.book.sheet
  owned_read = ap (λ (b : BookView). owns chunk b.sheet) reads.part.looks

module _ {F : Type 0} (Calls : F → Entry → F → Type 0) (now : ℕ) (part : PartView) (chunk : ℕ) (from : F) where
  -- before the first chunk there was no call
  pub calls_none : chunk ≡ part.book.sheet.first
      → FoldsTo Calls from (first_unexpired now part (chunk - part.book.sheet.first)) from
  calls_none is =
      let none : 0 ≡ chunk - part.book.sheet.first = omega (arith, is) in
      subst (λ count. FoldsTo Calls from (first_unexpired now part count) from) none refl

  -- and at the next one there was one where it has an entry
  pub calls_more : part.book.sheet.first ≤ chunk → (to next : F)
      → FoldsTo Calls from (first_unexpired now part (chunk - part.book.sheet.first)) to
      → (has_unexpired now part.book.sheet chunk ≡ true → Calls to (entry_at part chunk) next)
      → (has_unexpired now part.book.sheet chunk ≡ false → next ≡ to)
      → FoldsTo Calls from (first_unexpired now part (chunk + 1 - part.book.sheet.first)) next
  calls_more low to next so_far some none =
      subst (λ n. FoldsTo Calls from (first_unexpired now part n) next) more
      (by (has_unexpired now part.book.sheet chunk) refl)
    where
      count : ℕ
      count = chunk - part.book.sheet.first

      at : part.book.sheet.first + count ≡ chunk
      at = omega (arith, low)

      more : suc count ≡ chunk + 1 - part.book.sheet.first
      more = omega (arith, low)

      -- the entries up to this chunk, and its own where it has one
      entries : (b : Bool) → has_unexpired now part.book.sheet chunk ≡ b → first_unexpired now part (suc count)
          ≡ first_unexpired now part count ++ cond b (entry_at part chunk ∷ []) []
      entries b is = entries_more now part count
          ∙ (ap (λ c. first_unexpired now part count
          ++ cond (has_unexpired now part.book.sheet c) (entry_at part c ∷ []) []) at
          ∙ ap (λ has. first_unexpired now part count ++ cond has (entry_at part chunk ∷ []) []) is)

      by : (b : Bool) → has_unexpired now part.book.sheet chunk ≡ b
          → FoldsTo Calls from (first_unexpired now part (suc count)) next
      by true is = subst (λ all. FoldsTo Calls from all next) (sym (entries true is))
          (FoldsTo-push Calls from (first_unexpired now part count) to (entry_at part chunk) next so_far (some is))
      by false is = subst (λ all. FoldsTo Calls from all next)
          (sym (entries false is ∙ append-nil (first_unexpired now part count)))
          (subst (FoldsTo Calls from (first_unexpired now part count)) (sym (none is)) so_far)

-- one part more was visited
pub visits_more : {K V F : Type 0} (fits_key : K → Type 0) (key_words : K → List ℕ) (fits_value : V → Type 0)
    (value_words : V → List ℕ) (Step : F → K → V → ℕ → F → Type 0) (part now : ℕ) (from visit to : F)
    (me between after : CallerView PartState)
    → VisitsParts fits_key key_words fits_value value_words Step part now from visit me between
    → VisitsPart fits_key key_words fits_value value_words Step part now visit to between after
    → VisitsParts fits_key key_words fits_value value_words Step (part + 1) now from to me after
visits_more fits_key key_words fits_value value_words Step part now from visit to me between after so_far one =
    let more : suc part ≡ part + 1 = omega arith in
    subst (λ n. VisitsParts fits_key key_words fits_value value_words Step n now from to me after) more
    (between, visit, so_far, one)
