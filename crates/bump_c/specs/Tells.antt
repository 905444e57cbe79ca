-- What a call from C comes to: what the call inside does, told as C reads it.
use Rattle.std.specs.Prelude.{◌≡◌, ◌⊎◌, ◌<◌, ℕ, Bool, List, length, Option, Result, IsSome, IfSome, IfNone}
use Rattle.atomic_table.specs.Seated.{TableId}
use Rattle.bump_rules.specs.declared.bumps.Ended.{Ended}
use Rattle.bump_rules.specs.declared.commands.Pulled.{Pulled}
use Rattle.bump_rules.specs.declared.commands.Touch.{Touch}
use Rattle.bump_rules.specs.declared.items.Head.{Head}
use Rattle.bump_rules.specs.declared.items.ItemId.{ItemId}
use Rattle.bump_rules.specs.declared.places.Place.{Place}
use Rattle.bump_rules.specs.declared.places.Start.{Start}
use Rattle.bump_rules.specs.declared.places.Tail.{Tail}
use Rattle.bump_rules.specs.Lists.{list_at}
use Rattle.bump_rules.specs.Lives.{life}
use Rattle.bump_rules.specs.Places.{place_number}
use Rattle.bump_class.specs.declared.ending.UnlinkRefusal.{UnlinkRefusal}
use Rattle.bump_class.specs.declared.linking.LinkRefusal.{LinkRefusal}
use Rattle.bump_class.specs.declared.running.RunEnd.{RunEnd}
use Rattle.bump_unlocked.specs.declared.refusals.GetRefusal.{GetRefusal}
use Rattle.bump_handles.specs.declared.drainers.OtherClass.{OtherClass}
use Rattle.bump_handles.specs.declared.drainers.Rested.{Rested}
use Rattle.bump_handles.specs.declared.linking.WordsRefusal.{WordsRefusal}
use Rattle.bump_handles.specs.declared.looking.NotThere.{NotThere}
use Rattle.bump_handles.specs.declared.looking.Sight.{Sight}
use Rattle.bump_handles.specs.declared.looking.Walked.{Walked}
use Rattle.bump_handles.specs.declared.readers.Taken.{Taken}
use Rattle.bump_handles.specs.declared.readers.WholeHit.{WholeHit}
use Rattle.bump_handles.specs.Applying.{TellsClass, DrainerApplies, DrainerFrees, DrainerRests}
use Rattle.bump_handles.specs.Booking.{BookLinks, BookUnlinks, BookPulls, AreMovesOfWorker}
use Rattle.bump_handles.specs.Linking.{BookLinksWords}
use Rattle.bump_handles.specs.Looking.{BookLooks, BookSees, BookWalks}
use Rattle.bump_handles.specs.Reading.{HoldsBehindAll, HoldsNothing, HoldsOne}
use Rattle.bump_handles.specs.Reading.{ReaderCopies, ReaderGets, ReaderHits, ReaderReads, ReaderSees, ReaderTouches}
use Rattle.bump_handles.specs.Views.{ReaderView, TaggedBookView, DrainerView}
use Rattle.bump_c.specs.declared.answers.HitTold.{HitTold}
use Rattle.bump_c.specs.declared.answers.Labelled.{Labelled}
use Rattle.bump_c.specs.declared.answers.LinkTold.{LinkTold}
use Rattle.bump_c.specs.declared.answers.MarksTold.{MarksTold}
use Rattle.bump_c.specs.declared.answers.PullTold.{PullTold}
use Rattle.bump_c.specs.declared.answers.Ran.{Ran}
use Rattle.bump_c.specs.declared.answers.RanTold.{RanTold}
use Rattle.bump_c.specs.declared.answers.RestTold.{RestTold}
use Rattle.bump_c.specs.declared.answers.Seen.{Seen}
use Rattle.bump_c.specs.declared.answers.TimeTold.{TimeTold}
use Rattle.bump_c.specs.declared.answers.Touched.{Touched}
use Rattle.bump_c.specs.declared.answers.UnlinkTold.{UnlinkTold}
use Rattle.bump_c.specs.declared.answers.WalkTold.{WalkTold}
use Rattle.bump_c.specs.declared.answers.WordsTold.{WordsTold}
use Rattle.bump_c.specs.Numbers.{number_of_taken, touched_of, labelled_of, marks_of, has_both_marks, time_of, words_of}
use Rattle.bump_c.specs.Numbers.{told_of_hit, linked_of, words_linked_of, unlinked_of, number_of_tail, given_of}
use Rattle.bump_c.specs.Numbers.{told_of_pulled, no_such_tail, seen_of, looked_of, no_such_list}
use Rattle.bump_c.specs.Numbers.{walked_of, no_such_walk, moves_of_answer, class_of_answer, run_of, freeing_run_of, rest_of}
use Rattle.bump_c.specs.Numbers.{no_words, no_chunks}

-- ---- a reader's calls

abbrev pub TellsGet : ℕ → ℕ → ℕ → ReaderView → ReaderView → ℕ → Type 0
TellsGet hold chunk generation before after said = (answer : Taken) × (said ≡ number_of_taken answer)
    × ReaderGets hold (life chunk generation) before after answer

abbrev pub TellsTouch : ℕ → ℕ → ReaderView → ReaderView → Touched → Type 0
TellsTouch hold now before after said = (answer : Option Touch) × (said ≡ touched_of answer)
    × ReaderTouches hold now before after answer

abbrev pub TellsLabel : ℕ → ReaderView → ReaderView → Labelled → Type 0
TellsLabel hold before after said = (answer : Option ℕ) × (said ≡ labelled_of answer)
    × ReaderReads hold before after answer

abbrev pub TellsHit : ℕ → ℕ → ℕ → ReaderView → ReaderView → HitTold → Type 0
TellsHit chunk generation now before after said = (answer : Result WholeHit GetRefusal) × (said ≡ told_of_hit answer)
    × ReaderHits (life chunk generation) now before after answer

abbrev pub TellsMarks : ℕ → ReaderView → ReaderView → MarksTold → Type 0
TellsMarks hold before after said = (answer : Option Head) × (said ≡ marks_of answer)
    × ReaderSees hold before after answer

abbrev pub TellsMarked : ℕ → ReaderView → ReaderView → Bool → Type 0
TellsMarked hold before after said = (answer : Option Head) × (said ≡ has_both_marks answer)
    × ReaderSees hold before after answer

-- of the time nothing is promised
abbrev pub TellsTime : ℕ → ReaderView → ReaderView → TimeTold → Type 0
TellsTime hold before after said = (answer : Option ℕ) × (said ≡ time_of answer) × (after ≡ before)
    × IfSome answer (λ time. HoldsOne hold before)
    × IfNone answer (HoldsNothing hold before ⊎ HoldsBehindAll hold before)

abbrev pub TellsWords : ℕ → ℕ → TableId → ReaderView → ReaderView → WordsTold → Type 0
TellsWords hold first table before after said = (answer : Option ℕ) × (told : List ℕ) × (said ≡ words_of answer told)
    × ReaderCopies hold first table.slots before after no_words told answer

-- ---- a class's calls

abbrev pub TellsLink : Start → ℕ → ℕ → TaggedBookView → TaggedBookView → LinkTold → Type 0
TellsLink start label now before after said = (answer : Result ItemId LinkRefusal) × (said ≡ linked_of answer)
    × BookLinks start label now before after answer

abbrev pub TellsLinkWords : Start → TableId → ℕ → List ℕ → ℕ → TaggedBookView → TaggedBookView → LinkTold → Type 0
TellsLinkWords start table label words now before after said = (answer : Result ItemId WordsRefusal)
    × (said ≡ words_linked_of answer) × BookLinksWords start table.slots label words now before after answer

abbrev pub TellsUnlink : ℕ → ℕ → TaggedBookView → TaggedBookView → UnlinkTold → Type 0
TellsUnlink chunk generation before after said = (answer : Result (Ended × ℕ) UnlinkRefusal)
    × (said ≡ unlinked_of answer) × BookUnlinks (life chunk generation) before after answer

-- a pull of the list with this number; or there is none, and nothing is changed
abbrev pub TellsPull : ℕ → ℕ → TaggedBookView → TaggedBookView → PullTold → Type 0
TellsPull tail limit before after said =
    ((pull : Tail) × (answer : Pulled) × (label : ℕ) × (tail ≡ number_of_tail pull) × (said ≡ told_of_pulled answer label)
    × BookPulls pull (given_of limit) before after answer label)
    ⊎ ((3 < tail) × (said ≡ no_such_tail) × (after ≡ before))

-- the size of the list with this number; or there is none
abbrev pub TellsSize : ℕ → TaggedBookView → ℕ → Type 0
TellsSize place book said =
    ((at : Place) × (place ≡ place_number at) × (said ≡ length (list_at book.book.lists at)))
    ⊎ ((6 < place) × (said ≡ 4294967295))

abbrev pub TellsSeen : ℕ → TaggedBookView → TaggedBookView → Seen → Type 0
TellsSeen chunk before after said = (answer : Option Sight) × (said ≡ seen_of answer)
    × BookSees chunk before after answer

-- a look at the list with this number; or there is none, and nothing is changed
abbrev pub TellsLook : ℕ → ℕ → TaggedBookView → TaggedBookView → Seen → Type 0
TellsLook place behind before after said =
    ((at : Place) × (answer : Result (Option Sight) NotThere) × (place ≡ place_number at) × (said ≡ looked_of answer)
    × BookLooks at (given_of behind) before after answer)
    ⊎ ((6 < place) × (said ≡ no_such_list) × (after ≡ before))

-- a walk of the list with this number; or there is none
abbrev pub TellsWalk : ℕ → ℕ → TaggedBookView → WalkTold → Type 0
TellsWalk place from book said =
    ((at : Place) × (answer : Result Walked NotThere) × (told : List ℕ) × (place ≡ place_number at)
    × (said ≡ walked_of answer told) × BookWalks at (given_of from) book no_chunks told answer)
    ⊎ ((6 < place) × (said ≡ no_such_walk))

abbrev pub TellsMoveCount : ℕ → TaggedBookView → ℕ → Type 0
TellsMoveCount worker book said = (answer : Option ℕ) × (said ≡ moves_of_answer answer) × AreMovesOfWorker worker book answer

-- ---- a lane's calls

abbrev pub TellsLaneClass : DrainerView → DrainerView → ℕ → Type 0
TellsLaneClass before after said = (answer : Option ℕ) × (said ≡ class_of_answer answer)
    × TellsClass before after answer

abbrev pub TellsRun : ℕ → ℕ → TaggedBookView → DrainerView → TaggedBookView → DrainerView → Ran → Type 0
TellsRun now limit book before left after said = (answer : Result ℕ OtherClass) × (said ≡ run_of answer)
    × DrainerApplies now limit book before left after answer

abbrev pub TellsFreeingRun : ℕ → ℕ → TaggedBookView → DrainerView → TaggedBookView → DrainerView → RanTold → Type 0
TellsFreeingRun now limit book before left after said = (answer : Result RunEnd OtherClass) × (told : List ℕ)
    × (said ≡ freeing_run_of answer told) × DrainerFrees now limit book before no_chunks left after told answer

abbrev pub TellsRest : DrainerView → DrainerView → RestTold → Type 0
TellsRest before after said = (answer : Rested) × (said ≡ rest_of answer) × DrainerRests before after answer

-- The lane has the closed worker, which is this reader's, and is the same else.
pub record IsClosedBy (reader : ReaderView) (before after : DrainerView) : Type 0 where
  pub has : IsSome after.closed
  pub closed : IfSome after.closed (λ closed. (closed.sender.sent ≡ reader.worker.sender.sent)
      × (closed.sheet ≡ reader.worker.sheet))
  pub kept : after ≡ record before { closed = after.closed }
