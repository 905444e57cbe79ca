-- What a part keeps where its items and their words stay.
use Rattle.std.proofs.Common.{◌≡◌, ℕ, ◌+◌, false, List, ◌∷◌, Option, None, IsSome, Result, Ok, Err, IfOk, IfErr, ◌⊎◌, inl, inr, sym, ap, ap₂, ◌∙◌, subst}
use std.Path.{fun_ext}
use Rattle.bump_steps.specs.Rule.{RowPredicate}
use Rattle.bump_steps.specs.Views.{last_label, last_word}
use Rattle.cache_lists.specs.Items.{KeepsItems}
use Rattle.cache_lists.specs.Linked.{linked_at}
use Rattle.cache_part.specs.Expiring.{EndedExpired, KeepsUnexpired}
use Rattle.cache_part.specs.Keys.{key_at, value_at, words_from}
use Rattle.cache_part.specs.Parts.{PartView, IsUnder, IsUnknown}
use Rattle.cache_part.specs.Putting.{row_at}
use Rattle.cache_part.proofs.KeyLemmas.{words_same}
use Rattle.bump_rules.specs.Expiry.{has_expired}
use Rattle.cache_shelf.specs.Entries.{Keeps, AllKept, AllUnexpiredKept}
use Rattle.cache_shelf.specs.Shelves.{IsLawful, Obeys}

-- keys and values of both parts have as many words
pub record IsAlike (before after : PartView) : Type 0 where
  pub key_words : after.key_words ≡ before.key_words
  pub value_words : after.value_words ≡ before.value_words

pub alike_back : (before after : PartView) → IsAlike before after → IsAlike after before
alike_back before after alike = record { key_words = sym alike.key_words; value_words = sym alike.value_words }

-- they have behind a put
pub alike_put : (before after : PartView) → after ≡ record before {
  book = after.book;
  flow = after.flow;
  evictions = after.evictions;
  index = after.index;
} → IsAlike before after
alike_put before after rest =
    record { key_words = ap (λ p. p.key_words) rest; value_words = ap (λ p. p.value_words) rest }

-- behind a removal
pub alike_removed : (before after : PartView) → after ≡ record before {
  book = after.book;
  flow = after.flow;
  index = after.index;
} → IsAlike before after
alike_removed before after rest =
    record { key_words = ap (λ p. p.key_words) rest; value_words = ap (λ p. p.value_words) rest }

-- and behind a tend
pub alike_tended : (before after : PartView) → after ≡ record before {
  book = after.book;
  flow = after.flow;
  evictions = after.evictions;
  index = after.index;
  cursor = after.cursor;
} → IsAlike before after
alike_tended before after rest =
    record { key_words = ap (λ p. p.key_words) rest; value_words = ap (λ p. p.value_words) rest }

-- this chunk has the words that it had
abbrev pub SameWords : ℕ → PartView → PartView → Type 0
SameWords chunk before after = (i : ℕ) → last_word i after.book.sheet chunk ≡ last_word i before.book.sheet chunk

-- a chunk whose words stay has the key that it had
pub key_stays : (before after : PartView) (chunk : ℕ) → IsAlike before after → SameWords chunk before after
    → key_at after.key_words after.book.sheet chunk ≡ key_at before.key_words before.book.sheet chunk
key_stays before after chunk alike words = ap (λ n. key_at n after.book.sheet chunk) alike.key_words
    ∙ words_same before.book.sheet after.book.sheet chunk 0 before.key_words words

-- and the value
pub value_stays : (before after : PartView) (chunk : ℕ) → IsAlike before after → SameWords chunk before after
    → value_at after.key_words after.value_words after.book.sheet chunk
    ≡ value_at before.key_words before.value_words before.book.sheet chunk
value_stays before after chunk alike words =
    ap₂ (λ m n. value_at m n after.book.sheet chunk) alike.key_words alike.value_words
    ∙ words_same before.book.sheet after.book.sheet chunk before.key_words before.value_words words

-- and the time at which it expires, and then the value
pub old_stays : (before after : PartView) (chunk : ℕ) → IsAlike before after → SameWords chunk before after
    → last_label after.book.sheet chunk ∷ value_at after.key_words after.value_words after.book.sheet chunk
    ≡ last_label before.book.sheet chunk ∷ value_at before.key_words before.value_words before.book.sheet chunk
old_stays before after chunk alike words =
    ap₂ (λ label value. label ∷ value) (words 0) (value_stays before after chunk alike words)

-- and the whole row
pub row_stays : (before after : PartView) (chunk : ℕ) → IsAlike before after → SameWords chunk before after
    → row_at after chunk ≡ row_at before chunk
row_stays before after chunk alike words = ap₂ (λ label row. label ∷ row) (words 0)
    (ap₂ (λ m n. words_from 0 (m + n) after.book.sheet chunk) alike.key_words alike.value_words
    ∙ words_same before.book.sheet after.book.sheet chunk 0 (before.key_words + before.value_words) words)

-- and obeys the law as it did
pub obeys_stays : (law : RowPredicate) (before after : PartView) (chunk : ℕ) → SameWords chunk before after
    → Obeys law before chunk → Obeys law after chunk
obeys_stays law before after chunk words obeys = subst law (sym (fun_ext words)) obeys

-- an item that stays linked, and whose words stay, stays under its key
pub under_stays : (key : List ℕ) (before after : PartView) (chunk : ℕ) → IsAlike before after
    → linked_at after.book.sheet chunk ≡ linked_at before.book.sheet chunk → SameWords chunk before after
    → IsUnder key chunk before → IsUnder key chunk after
under_stays key before after chunk alike linked words under = record {
  linked = subst IsSome (sym linked) under.linked;
  key = key_stays before after chunk alike words ∙ under.key;
}

-- and what it keeps stays
pub keeps_stays : (key value : List ℕ) (expires : ℕ) (before after : PartView) → IsAlike before after
    → (kept : Keeps key value expires before)
    → linked_at after.book.sheet kept.chunk ≡ linked_at before.book.sheet kept.chunk
    → SameWords kept.chunk before after → Keeps key value expires after
keeps_stays key value expires before after alike kept linked words = record {
  chunk = kept.chunk;
  under = under_stays key before after kept.chunk alike linked words kept.under;
  value = value_stays before after kept.chunk alike words ∙ kept.value;
  label = words 0 ∙ kept.label;
}

-- where the same items are linked with the same words
module _ (before after : PartView) (alike : IsAlike before after) (items : KeepsItems before.book after.book) where
  same_words : (chunk : ℕ) → SameWords chunk before after
  same_words chunk i = items.words i chunk

  words_back : (chunk : ℕ) → SameWords chunk after before
  words_back chunk i = sym (items.words i chunk)

  pub moved_keeps : (key value : List ℕ) (expires : ℕ) → Keeps key value expires before → Keeps key value expires after
  moved_keeps key value expires kept =
      keeps_stays key value expires before after alike kept (items.linked kept.chunk) (same_words kept.chunk)

  pub moved_kept : (key value : List ℕ) (expires : ℕ) → Keeps key value expires after → Keeps key value expires before
  moved_kept key value expires kept = keeps_stays key value expires after before (alike_back before after alike) kept
      (sym (items.linked kept.chunk)) (words_back kept.chunk)

  pub moved_all : AllKept None before after
  moved_all key value expires other = (moved_keeps key value expires, moved_kept key value expires)

  pub moved_under : (key : List ℕ) (chunk : ℕ) → IsUnder key chunk before → IsUnder key chunk after
  moved_under key chunk under =
      under_stays key before after chunk alike (items.linked chunk) (same_words chunk) under

  pub moved_unknown : (key : List ℕ) → IsUnknown key before → IsUnknown key after
  moved_unknown key unknown chunk under = unknown chunk (under_stays key after before chunk (alike_back before after alike)
      (sym (items.linked chunk)) (words_back chunk) under)

  pub unknown_before : (key : List ℕ) → IsUnknown key after → IsUnknown key before
  unknown_before key unknown chunk under = unknown chunk (moved_under key chunk under)

  pub moved_lawful : (law : RowPredicate) → IsLawful law before → IsLawful law after
  moved_lawful law lawful chunk some = obeys_stays law before after chunk (same_words chunk)
      (lawful chunk (subst IsSome (items.linked chunk) some))

-- what isn't linked isn't something
pub not_linked : (linked : Option ℕ) → linked ≡ None → IsSome linked → ⊥
not_linked linked none some = absurd (cc (subst IsSome none some))

-- where what hasn't expired stays linked, and each chunk has its words
module _ (now : ℕ) (before after : PartView) (alike : IsAlike before after)
    (items : KeepsUnexpired now before.book after.book) where
  unexpired_words : (chunk : ℕ) → SameWords chunk before after
  unexpired_words chunk i = items.words i chunk

  -- what is linked behind it was linked
  pub was_unexpired : (chunk : ℕ) → IsSome (linked_at after.book.sheet chunk)
      → linked_at after.book.sheet chunk ≡ linked_at before.book.sheet chunk
  was_unexpired chunk some = by (items.linked chunk)
    where
      by : (linked_at after.book.sheet chunk ≡ linked_at before.book.sheet chunk)
          ⊎ EndedExpired now chunk before.book after.book
          → linked_at after.book.sheet chunk ≡ linked_at before.book.sheet chunk
      by (inl same) = same
      by (inr ended) = absurd (not_linked (linked_at after.book.sheet chunk) ended.gone some)

  -- and so is what was kept, where it hasn't expired
  unexpired_stays : (key value : List ℕ) (expires : ℕ) → has_expired expires now ≡ false
      → (kept : Keeps key value expires before)
      → linked_at after.book.sheet kept.chunk ≡ linked_at before.book.sheet kept.chunk
  unexpired_stays key value expires fresh kept = by (items.linked kept.chunk)
    where
      by : (linked_at after.book.sheet kept.chunk ≡ linked_at before.book.sheet kept.chunk)
          ⊎ EndedExpired now kept.chunk before.book after.book
          → linked_at after.book.sheet kept.chunk ≡ linked_at before.book.sheet kept.chunk
      by (inl same) = same
      by (inr ended) = absurd (cc (sym fresh ∙ (ap (λ at. has_expired at now) (sym kept.label) ∙ ended.expired)))

  pub unexpired_all : AllUnexpiredKept now before after
  unexpired_all = record {
    stay = λ key value expires fresh kept. keeps_stays key value expires before after alike kept
        (unexpired_stays key value expires fresh kept) (unexpired_words kept.chunk);
    kept = λ key value expires kept. keeps_stays key value expires after before (alike_back before after alike) kept
        (sym (was_unexpired kept.chunk kept.under.linked)) (λ i. sym (unexpired_words kept.chunk i));
  }

  pub unexpired_lawful : (law : RowPredicate) → IsLawful law before → IsLawful law after
  unexpired_lawful law lawful chunk some = obeys_stays law before after chunk (unexpired_words chunk)
      (lawful chunk (subst IsSome (was_unexpired chunk some) some))

-- what holds where a call succeeded
pub where_ok : {A B : Type 0} (r : Result A B) (P Q : A → Type 0) → ((a : A) → P a → Q a) → IfOk r P → IfOk r Q
where_ok (Ok a) P Q then has = then a has
where_ok (Err b) P Q then has = tt

-- and where it was refused
pub where_err : {A B : Type 0} (r : Result A B) (P Q : B → Type 0) → ((b : B) → P b → Q b) → IfErr r P → IfErr r Q
where_err (Ok a) P Q then has = tt
where_err (Err b) P Q then has = then b has
