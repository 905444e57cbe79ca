-- What the calls of a Book with the number of its store come to: what those of the Book do, and the number stays.
use Rattle.std.specs.Prelude.{◌≡◌, ℕ, ◌<◌, ◌≤◌, true, false, List, length, Option, None, Some, Result, Ok, Err}
use Rattle.std.specs.Prelude.{IfSome, IfNone, IfOk, OnErr}
use Rattle.std.specs.Result.{result_err}
use Rattle.bump_rules.specs.declared.bumps.Ended.{Ended}
use Rattle.bump_rules.specs.declared.commands.Pulled.{Pulled}
use Rattle.bump_rules.specs.declared.items.Head.{Head}
use Rattle.bump_rules.specs.declared.items.ItemId.{ItemId}
use Rattle.bump_rules.specs.declared.places.Limits.{Limits}
use Rattle.bump_rules.specs.declared.places.Start.{Start}
use Rattle.bump_rules.specs.declared.places.Tail.{Tail}
use Rattle.bump_rules.specs.Entries.{moves_of}
use Rattle.bump_rules.specs.Labels.{label_of_life}
use Rattle.bump_rules.specs.Commands.{item_told}
use Rattle.bump_steps.specs.Views.{last_label, owns}
use Rattle.bump_class.specs.declared.ending.UnlinkRefusal.{UnlinkRefusal}
use Rattle.bump_class.specs.declared.linking.LinkRefusal.{LinkRefusal}
use Rattle.bump_class.specs.Books.{BookView}
use Rattle.bump_class.specs.Changes.{book_with_item, book_after_see_label}
use Rattle.bump_class.specs.Ends.{Unlinks, unlink_refusal}
use Rattle.bump_class.specs.Links.{linked_item}
use Rattle.bump_class.specs.Pulls.{PullsBy, limits_of_book, limits_of_call}
use Rattle.bump_class.specs.Sweeps.{Sweeps, SweepsInto}
use Rattle.bump_handles.specs.Views.{TaggedBookView}

pub record BookLinks (start : Start) (label now : ℕ) (before after : TaggedBookView)
    (answer : Result ItemId LinkRefusal) : Type 0 where
  pub item : answer ≡ linked_item before.book
  pub linked : IfOk answer (λ id. after.book ≡ book_with_item start id label now before.book)
  pub labelled : IfOk answer (λ id. label_of_life id 0 after.book.sheet.labels ≡ Some label)
  pub unchanged : OnErr answer (after.book ≡ before.book)
  pub store : after.store ≡ before.store

-- What reading the label of a chunk leaves and tells: the last one that was stored for it. Of one that the class doesn't
-- have nothing is read.
pub record ReadsLabel (chunk : ℕ) (before after : BookView) (label : ℕ) : Type 0 where
  pub stored : owns chunk before.sheet ≡ true → label ≡ last_label before.sheet chunk
  pub seen : owns chunk before.sheet ≡ true → after ≡ book_after_see_label chunk label before
  pub none : owns chunk before.sheet ≡ false → (label ≡ 0) × (after ≡ before)

-- what the unlink itself answered
abbrev pub ended_alone : Result (Ended × ℕ) UnlinkRefusal → Result Ended UnlinkRefusal
ended_alone (Ok it) = Ok it.0
ended_alone (Err refusal) = Err refusal

pub record BookUnlinks (id : ItemId) (before after : TaggedBookView) (answer : Result (Ended × ℕ) UnlinkRefusal)
    : Type 0 where
  pub refused : result_err (ended_alone answer) ≡ unlink_refusal before.book id
  pub between : BookView
  pub unlinked : Unlinks before.book id (ended_alone answer) between
  pub labelled : IfOk answer (λ it. ReadsLabel id.chunk between after.book it.1)
  pub unchanged : OnErr answer (after.book ≡ between)
  pub store : after.store ≡ before.store

-- the limit of a call stands in place of that of the pull's list; without one the class's own count
abbrev pub limits_asked : Option ℕ → BookView → Limits
limits_asked None book = limits_of_book book
limits_asked (Some limit) book = limits_of_call limit

pub record BookPulls (tail : Tail) (limit : Option ℕ) (before after : TaggedBookView) (answer : Pulled) (label : ℕ)
    : Type 0 where
  pub between : BookView
  pub pulled : PullsBy (limits_asked limit before.book) before.book tail answer between
  pub labelled : IfSome (item_told answer) (λ item. ReadsLabel item.chunk between after.book label)
  pub no_item : IfNone (item_told answer) ((label ≡ 0) × (after.book ≡ between))
  pub store : after.store ≡ before.store

pub record BookSweeps (before after : TaggedBookView) (freed : ℕ) : Type 0 where
  pub swept : (heads : ℕ → Head) × Sweeps before.book freed after.book heads
  pub store : after.store ≡ before.store

pub record BookSweepsInto (before : TaggedBookView) (slice : List ℕ) (after : TaggedBookView) (told : List ℕ)
    (freed : ℕ) : Type 0 where
  pub swept : (heads : ℕ → Head) × SweepsInto before.book slice freed after.book told heads
  pub few : freed ≤ length slice
  pub store : after.store ≡ before.store

-- how many moves for bumps of the worker the class's history has
pub record AreMovesOfWorker (worker : ℕ) (book : TaggedBookView) (answer : Option ℕ) : Type 0 where
  pub moves : IfSome answer (λ moves. moves ≡ moves_of worker book.book.sheet.history)
  pub range : IfSome answer (λ moves. worker < book.book.workers)
  pub none : IfNone answer (book.book.workers ≤ worker)
