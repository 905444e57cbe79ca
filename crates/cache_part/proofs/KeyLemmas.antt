-- Keys and values as lists of words.
use Rattle.std.proofs.Common.{◌≡◌, ℕ, Bool, zero, suc, ◌+◌, ◌-◌, ◌<◌, ◌≤◌, List, [], ◌∷◌, ◌++◌, Option, None, Some, length, get_or, take, drop, slice_set, refl, sym, ap, ap₂, ◌∙◌, arith}
use Rattle.std.proofs.lemmas.List.{append-nil, drop_all, get_or-take, get_or-drop, length-take-le, length-drop}
use borrow.Rule.Slice.PartMut.{put_mid, mid_of}
use Rattle.bump_steps.specs.declared.views.ClassSheet.{ClassSheet}
use Rattle.bump_steps.specs.Views.{last_word}
use Rattle.bump_class.specs.Books.{BookView}
use Rattle.cache_lists.specs.Items.{HasRow}
use Rattle.cache_part.specs.Keys.{words_from, row_of, key_at, value_at}
use Rattle.cache_part.specs.Putting.{TellsOldWords, told_if}

-- words of a chunk that are these one by one are these
pub words_read : (class : ClassSheet) (chunk index : ℕ) (words : List ℕ)
    → ((j : ℕ) → j < length words → last_word (suc (index + j)) class chunk ≡ get_or words j 0)
    → words_from index (length words) class chunk ≡ words
words_read class chunk index [] each = refl
words_read class chunk index (word ∷ words) each =
    let here : index ≡ index + 0 = omega arith in
    let first : last_word (suc index) class chunk ≡ word =
    ap (λ n. last_word (suc n) class chunk) here ∙ each 0 (omega arith) in
    ap₂ (λ x xs. x ∷ xs) first (words_read class chunk (suc index) words (λ j low.
    let next : suc index + j ≡ index + suc j = omega arith in
    ap (λ n. last_word (suc n) class chunk) next ∙ each (suc j) (omega (arith, low))))

-- and each of them is the chunk's
pub word_read : (class : ClassSheet) (chunk index count j : ℕ) → j < count
    → get_or (words_from index count class chunk) j 0 ≡ last_word (suc (index + j)) class chunk
word_read class chunk index zero j low = absurd (omega (arith, low))
word_read class chunk index (suc count) zero low =
    let here : index ≡ index + 0 = omega arith in ap (λ n. last_word (suc n) class chunk) here
word_read class chunk index (suc count) (suc j) low =
    let next : suc index + j ≡ index + suc j = omega arith in
    word_read class chunk (suc index) count j (omega (arith, low)) ∙ ap (λ n. last_word (suc n) class chunk) next

-- where a chunk's words stay, so do its key and its value
pub words_same : (class left : ClassSheet) (chunk index count : ℕ)
    → ((i : ℕ) → last_word i left chunk ≡ last_word i class chunk)
    → words_from index count left chunk ≡ words_from index count class chunk
words_same class left chunk index zero same = refl
words_same class left chunk index (suc count) same =
    ap₂ (λ x xs. x ∷ xs) (same (suc index)) (words_same class left chunk (suc index) count same)

-- and its row
pub row_same : (class left : ClassSheet) (chunk count : ℕ)
    → ((i : ℕ) → last_word i left chunk ≡ last_word i class chunk)
    → row_of count left chunk ≡ row_of count class chunk
row_same class left chunk count same = ap₂ (λ x xs. x ∷ xs) (same 0) (words_same class left chunk 0 count same)

-- and what is told of its item's time and value
pub old_told_same : (tells : Bool) (key_words value_words : ℕ) (old : Option ℕ) (from to : List ℕ) (class left : ClassSheet)
    → ((i c : ℕ) → last_word i left c ≡ last_word i class c) → TellsOldWords tells key_words value_words old from to left
    → TellsOldWords tells key_words value_words old from to class
old_told_same tells key_words value_words None from to class left same told = told
old_told_same tells key_words value_words (Some chunk) from to class left same told = told
    ∙ ap (λ words. told_if tells words from) (ap₂ (λ x xs. x ∷ xs) (same 0 chunk)
    (words_same class left chunk key_words value_words (λ i. same i chunk)))

-- a label and the words behind it are a row
pub row_put : (label : ℕ) (stored words : List ℕ) → 0 < length stored
    → put_mid 1 (length (slice_set stored 0 label) - 1) (slice_set stored 0 label) words ≡ label ∷ words
row_put label [] words some = absurd (omega (arith, some))
row_put label (x ∷ stored) words some =
    let rest : length stored ≤ length (label ∷ stored) - 1 = omega arith in
    ap (λ end. label ∷ (words ++ end)) (drop_all (length (label ∷ stored) - 1) stored rest)
    ∙ ap (λ all. label ∷ all) (append-nil words)

-- and there is room for so many words behind a label
pub rest_length : (label : ℕ) (stored : List ℕ) → 0 < length stored
    → length (mid_of 1 (length (slice_set stored 0 label) - 1) (slice_set stored 0 label)) ≡ length stored - 1
rest_length label [] some = absurd (omega (arith, some))
rest_length label (x ∷ stored) some =
    let rest : length (label ∷ stored) - 1 ≤ length stored = omega arith in
    length-take-le (length (label ∷ stored) - 1) stored rest

-- the key of a row is its first words
pub key_of_row : (book : BookView) (chunk label key_words : ℕ) (row : List ℕ) → HasRow chunk label row book
    → key_words ≤ length row → key_at key_words book.sheet chunk ≡ take key_words row
key_of_row book chunk label key_words row has few =
    let size : length (take key_words row) ≡ key_words = length-take-le key_words row few in
    ap (λ n. words_from 0 n book.sheet chunk) (sym size)
    ∙ words_read book.sheet chunk 0 (take key_words row) (λ j low.
    let here : 0 + j ≡ j = omega arith in
    let below : j < key_words = omega (arith, low, size) in
    ap (λ n. last_word (suc n) book.sheet chunk) here
    ∙ (has.1 j (omega (arith, below, few)) ∙ sym (get_or-take key_words row j 0 below)))

-- and its value is those behind them
pub value_of_row : (book : BookView) (chunk label key_words value_words : ℕ) (row : List ℕ) → HasRow chunk label row book
    → length row ≡ key_words + value_words → value_at key_words value_words book.sheet chunk ≡ drop key_words row
value_of_row book chunk label key_words value_words row has all =
    let size : length (drop key_words row) ≡ value_words = omega (arith, length-drop key_words row, all) in
    ap (λ n. words_from key_words n book.sheet chunk) (sym size)
    ∙ words_read book.sheet chunk key_words (drop key_words row) (λ j low.
    has.1 (key_words + j) (omega (arith, low, size, all)) ∙ sym (get_or-drop key_words row j 0))
