-- Loads, one after the other.
use Rattle.std.proofs.Common.{◌≡◌, ℕ, refl, sym, ap, ◌∙◌, subst}
use Rattle.bump_class.specs.Books.{BookView}
use Rattle.bump_class.specs.Changes.{book_after_see_label, book_after_see_word}
use Rattle.cache_lists.specs.Counts.{CountedView}
use Rattle.cache_lists.specs.Looks.{LooksOnly}
pub use Rattle.cache_lists.proofs.LookLemmas.{looks_keep, looks_then}

-- the load of a word is one
pub word_looks : (lists left : CountedView) (chunk word : ℕ)
    → left ≡ record lists { book = book_after_see_word chunk word lists.book } → LooksOnly lists.book left.book
word_looks lists left chunk word is =
    let P : CountedView → Type 0 = λ v. LooksOnly lists.book v.book in subst P (sym is) refl

-- so is the load of a label
pub label_looks : (lists left : CountedView) (chunk label : ℕ)
    → left ≡ record lists { book = book_after_see_label chunk label lists.book } → LooksOnly lists.book left.book
label_looks lists left chunk label is =
    let P : CountedView → Type 0 = λ v. LooksOnly lists.book v.book in subst P (sym is) refl

-- what changes the Book alone leaves the rest
pub seen_rest : (lists left : CountedView) (seen : BookView) → left ≡ record lists { book = seen }
    → left ≡ record lists { book = left.book }
seen_rest lists left seen is =
    is ∙ ap (λ (b : BookView). record lists { book = b }) (sym (ap (λ (v : CountedView). v.book) is))

-- and so do more changes of it
pub rest_then : (lists between left : CountedView) → between ≡ record lists { book = between.book }
    → left ≡ record between { book = left.book } → left ≡ record lists { book = left.book }
rest_then lists between left one other = other ∙ ap (λ (v : CountedView). record v { book = left.book }) one
