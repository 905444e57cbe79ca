-- What a link with further words comes to, of a Book with the number of its store.
use Rattle.std.specs.Prelude.{◌≡◌, ℕ, ◌<◌, ◌≤◌, List, length, slice_index, Some, Result, Ok, Err, IfOk, OnErr}
use Rattle.bump_rules.specs.declared.items.ItemId.{ItemId}
use Rattle.bump_rules.specs.declared.places.Start.{Start}
use Rattle.bump_rules.specs.Labels.{label_of_life}
use Rattle.bump_steps.specs.Views.{of_word}
use Rattle.bump_class.specs.declared.linking.LinkRefusal.{LinkRefusal}
use Rattle.bump_class.specs.declared.linking.LinkRefusal.TheVariants as refused
use Rattle.bump_class.specs.Changes.{book_with_words}
use Rattle.bump_class.specs.Links.{linked_item}
use Rattle.bump_handles.specs.declared.linking.WordsRefusal.{WordsRefusal}
use Rattle.bump_handles.specs.declared.linking.WordsRefusal.TheVariants.{TooMany, NoFreeChunk}
use Rattle.bump_handles.specs.Views.{TaggedBookView}

abbrev pub words_refusal : LinkRefusal → WordsRefusal
words_refusal refused.NoFreeChunk = NoFreeChunk

-- what a link answered, as one with words does
abbrev pub words_linked : Result ItemId LinkRefusal → Result ItemId WordsRefusal
words_linked (Ok item) = Ok item
words_linked (Err refusal) = Err (words_refusal refusal)

-- What a link with these words comes to, where each chunk has so many further ones.
pub record BookLinksWords (start : Start) (further label : ℕ) (words : List ℕ) (now : ℕ) (before after : TaggedBookView)
    (answer : Result ItemId WordsRefusal) : Type 0 where
  pub too_many : further < length words → answer ≡ Err TooMany
  pub item : length words ≤ further → answer ≡ words_linked (linked_item before.book)
  pub linked : IfOk answer (λ id. after.book ≡ book_with_words start id label words now before.book)
  pub labelled : IfOk answer (λ id. label_of_life id 0 after.book.sheet.labels ≡ Some label)
  pub has_words : IfOk answer (λ id. (j : ℕ) → j < length words
      → label_of_life id 0 (of_word j after.book.sheet.words) ≡ Some (slice_index words j))
  pub unchanged : OnErr answer (after.book ≡ before.book)
  pub store : after.store ≡ before.store
