-- What looks at the items of a list come to, of a Book with the number of its store.
use Rattle.std.specs.Prelude.{◌≡◌, ℕ, ◌<◌, Bool, true, false, nat_lt, List, ◌++◌, length, take, drop, option_map}
use Rattle.std.specs.Prelude.{Option, None, Some, IsSome, IfSome, IfNone, Result, IfOk, OnErr}
use Rattle.bump_links.specs.Lists.{first_of, last_of, previous_of, times}
use Rattle.bump_rules.specs.declared.places.Place.{Place}
use Rattle.bump_rules.specs.Lawful.{Shows}
use Rattle.bump_rules.specs.Lists.{list_at}
use Rattle.bump_steps.specs.Views.{last_label, owns}
use Rattle.bump_heads.specs.Linking.{place_of_chunk, generation_of_chunk}
use Rattle.bump_class.specs.Changes.{book_after_see, book_after_see_label}
use Rattle.bump_class.specs.Sweeps.{told_first}
use Rattle.bump_handles.specs.declared.looking.NotThere.{NotThere}
use Rattle.bump_handles.specs.declared.looking.Sight.{Sight}
use Rattle.bump_handles.specs.declared.looking.Walked.{Walked}
use Rattle.bump_handles.specs.Views.{TaggedBookView}

-- how often a chunk stands in the list at a place
abbrev pub times_at : ℕ → Place → TaggedBookView → ℕ
times_at chunk place book = times chunk (list_at book.book.lists place)

-- whether it stands there
abbrev pub StandsThere : ℕ → Place → TaggedBookView → Bool → Type 0
StandsThere chunk place book answer = answer ≡ nat_lt 0 (times_at chunk place book)

-- the chunk that is looked at: the last one of a list, or the one before the given chunk
abbrev pub looked_at : Option ℕ → List ℕ → Option ℕ
looked_at None xs = last_of xs
looked_at (Some chunk) xs = previous_of chunk xs

-- What looking for that chunk comes to: it stands in the list, if it is there; or the given one doesn't.
pub record IsTarget (place : Place) (behind : Option ℕ) (book : TaggedBookView) (answer : Result (Option ℕ) NotThere)
    : Type 0 where
  pub chunk : IfOk answer (λ told. told ≡ looked_at behind (list_at book.book.lists place))
  pub stands : IfOk answer (λ told. IfSome told (λ chunk. (owns chunk book.book.sheet ≡ true)
      × (place_of_chunk book.book.sheet chunk ≡ place)))
  pub there : IfOk answer (λ told. IfSome behind (λ chunk. 0 < times_at chunk place book))
  pub given : OnErr answer (IsSome behind)
  pub not_there : OnErr answer (IfSome behind (λ chunk. times_at chunk place book ≡ 0))

-- What three loads found of a chunk of the class, and what they leave. The head agrees with the chunk's list, and has its
-- generation; the label is the last one that was stored for it.
pub record SeesAll (before after : TaggedBookView) (it : Sight) : Type 0 where
  pub seen : after.book ≡ book_after_see_label it.chunk it.label (book_after_see it.chunk it.head it.time before.book)
  pub shows : Shows it.head (place_of_chunk before.book.sheet it.chunk)
  pub generation : it.head.generation ≡ generation_of_chunk before.book.sheet it.chunk
  pub stored : it.label ≡ last_label before.book.sheet it.chunk

-- What a look at a chunk comes to.
pub record BookSees (chunk : ℕ) (before after : TaggedBookView) (answer : Option Sight) : Type 0 where
  pub sees : IfSome answer (λ it. SeesAll before after it)
  pub named : IfSome answer (λ it. it.chunk ≡ chunk)
  pub own : IfSome answer (λ it. owns chunk before.book.sheet ≡ true)
  -- there is no such chunk
  pub none : IfNone answer (owns chunk before.book.sheet ≡ false)
  pub unchanged : IfNone answer (after ≡ before)
  pub store : after.store ≡ before.store

-- What a look at a chunk of a list comes to.
pub record BookLooks (place : Place) (behind : Option ℕ) (before after : TaggedBookView)
    (answer : Result (Option Sight) NotThere) : Type 0 where
  pub chunk : IfOk answer (λ told. option_map (λ it. it.chunk) told ≡ looked_at behind (list_at before.book.lists place))
  pub sees : IfOk answer (λ told. IfSome told (λ it. SeesAll before after it))
  pub stands : IfOk answer (λ told. IfSome told (λ it. place_of_chunk before.book.sheet it.chunk ≡ place))
  pub nothing : IfOk answer (λ told. IfNone told (after ≡ before))
  pub there : IfOk answer (λ told. IfSome behind (λ chunk. 0 < times_at chunk place before))
  -- the given chunk doesn't stand in the list
  pub given : OnErr answer (IsSome behind)
  pub not_there : OnErr answer (IfSome behind (λ chunk. times_at chunk place before ≡ 0))
  pub unchanged : OnErr answer (after ≡ before)
  pub store : after.store ≡ before.store

-- the row is the list from this chunk on; or all of it, where none is given
abbrev pub IsFrom : Option ℕ → List ℕ → List ℕ → Type 0
IsFrom None xs row = row ≡ xs
IsFrom (Some chunk) xs row = (before : List ℕ) × (xs ≡ before ++ row) × (first_of row ≡ Some chunk)

-- What a walk of a row of chunks comes to: as many are told as a slice has room for, the first ones, and the next one.
pub record Walks (row slice told : List ℕ) (answer : Walked) : Type 0 where
  pub tells : told ≡ told_first (take (length slice) row) slice
  pub count : answer.count ≡ length (take (length slice) row)
  pub next : answer.next ≡ first_of (drop (length slice) row)

-- What looking for the chunk comes to from which a walk begins: the first of the list, or the given one, if it is there.
pub record IsFirst (place : Place) (from : Option ℕ) (book : TaggedBookView) (answer : Result (Option ℕ) NotThere)
    : Type 0 where
  pub all : from ≡ None → IfOk answer (λ first. first ≡ first_of (list_at book.book.lists place))
  pub given_one : IfSome from (λ chunk. IfOk answer (λ first. first ≡ Some chunk))
  pub there : IfOk answer (λ first. IfSome from (λ chunk. 0 < times_at chunk place book))
  pub stands : IfOk answer (λ first. IfSome first (λ chunk. (owns chunk book.book.sheet ≡ true)
      × (place_of_chunk book.book.sheet chunk ≡ place)))
  pub given : OnErr answer (IsSome from)
  pub not_there : OnErr answer (IfSome from (λ chunk. times_at chunk place book ≡ 0))

-- What a walk of a list comes to.
pub record BookWalks (place : Place) (from : Option ℕ) (book : TaggedBookView) (slice told : List ℕ)
    (answer : Result Walked NotThere) : Type 0 where
  pub walks : IfOk answer (λ walked. (row : List ℕ) × IsFrom from (list_at book.book.lists place) row
      × Walks row slice told walked)
  -- the given chunk doesn't stand in the list
  pub given : OnErr answer (IsSome from)
  pub not_there : OnErr answer (IfSome from (λ chunk. times_at chunk place book ≡ 0))
  pub unchanged : OnErr answer (told ≡ slice)

-- a walk from a chunk at hand on: it is the first of the rest of the list
abbrev pub WalksOn : List ℕ → Option ℕ → List ℕ → List ℕ → Walked → Type 0
WalksOn xs first slice told answer = (before row : List ℕ) → xs ≡ before ++ row → first ≡ first_of row
    → Walks row slice told answer
