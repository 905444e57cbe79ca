-- What a reader's steps on a reference tell: a worker looks at a head word and takes a reference by an exchange, and a
-- hold gives its reference back, and reads its words. And what is told of a word that is seen without a seat.
use Rattle.std.specs.Prelude.{◌≡◌, ◌≢◌, ℕ, suc, ◌+◌, ◌/◌, ◌^◌, ◌≤◌, List, [], ◌∷◌, ◌++◌, length, slice_index, None}
use Rattle.bump_rules.specs.declared.items.Head.{Head}
use Rattle.bump_rules.specs.declared.items.ItemId.{ItemId}
use Rattle.bump_rules.specs.Lawful.{bit}
use Rattle.bump_rules.specs.Lives.{life}
use Rattle.bump_rules.specs.Tables.{get_of, IsHeld}
use Rattle.bump_word.specs.Layout.{generation_first}
use Rattle.bump_word.specs.Words.{Spells}
use Rattle.bump_steps.specs.declared.views.GivenBack.{GivenBack}
use Rattle.bump_steps.specs.declared.views.HoldSheet.{HoldSheet}
use Rattle.bump_steps.specs.declared.views.Kind.TheVariants as kind
use Rattle.bump_steps.specs.declared.views.View.{View}
use Rattle.bump_steps.specs.declared.views.WorkerSheet.{WorkerSheet}
use Rattle.bump_steps.specs.Plays.{Sat, Tells, Found, Told, behind, on_first, step_of}
use Rattle.bump_steps.specs.Marks.{noted, on_worker}
use Rattle.bump_steps.specs.Rule.{RowPredicate, blank}

-- the worker loaded the chunk's head word, and found n
abbrev pub view_after_load : ℕ → ℕ → View → View
view_after_load chunk word view = on_worker (noted kind.Load chunk word) view

-- an exchange of the worker on it failed, which found n
abbrev pub view_after_failed : ℕ → ℕ → View → View
view_after_failed chunk word view = on_worker (noted kind.Failed chunk word) view

abbrev pub load_to_take_tells : Tells
load_to_take_tells chunk operand before word after = (after ≡ (view_after_load chunk word before.0, before.1))
    × Found word (Told chunk before.0)

-- a hold of the life, whose words are these, and which looked at no head
abbrev pub new_hold : ItemId → List ℕ → HoldSheet
new_hold item row = record { life = item; row = row; looks = [] }

-- the worker notes the exchange and the hold that it took
abbrev pub worker_after_take : ℕ → ℕ → List ℕ → WorkerSheet → WorkerSheet
worker_after_take chunk word row worker = record (noted kind.Take chunk word worker)
    { taken = new_hold (life chunk (word / 2 ^ generation_first)) row ∷ worker.taken }

-- the worker took a reference where it found n: the life is the one whose generation n has, and the worker and the new
-- hold have the same row
abbrev pub view_after_take : ℕ → ℕ → List ℕ → View → View
view_after_take chunk word row view = record view {
  workers = on_first (worker_after_take chunk word row) view.workers;
  holds =
      new_hold (life chunk (word / 2 ^ generation_first)) row ∷ view.holds;
}

-- a row has a label and these many further words
abbrev pub IsRow : ℕ → List ℕ → Type 0
IsRow slots row = length row ≡ slots + 1

-- its label, and its further words by number
abbrev pub label_of_row : List ℕ → ℕ
label_of_row words = slice_index words 0

abbrev pub word_of_row : List ℕ → ℕ → ℕ
word_of_row words index = slice_index words (suc index)

-- all of them by number, and 0 behind the last
abbrev pub words_in : List ℕ → ℕ → ℕ
words_in words index = slice_index words index

-- an exchange that finds the word that it expects puts the life's row into the hold's sheet, of which the law holds, and one that finds another
-- word failed
abbrev pub take_tells : RowPredicate → ℕ → Tells
take_tells law slots chunk operand before word after =
    (word ≡ operand → (row : List ℕ) × IsRow slots row × law (words_in row)
    × (after ≡ (view_after_take chunk word row before.0, before.1)))
    × (word ≢ operand → after ≡ (view_after_failed chunk word before.0, before.1)) × Found word (Told chunk before.0)

-- by this word a get of the life is a hold
abbrev pub MayTake : ℕ → ItemId → ℕ → Type 0
MayTake limit item word = (h : Head) × Spells word h × (get_of limit item.generation h ≡ IsHeld)

-- the view's first hold is of this chunk
abbrev pub HasHold : ℕ → View → Type 0
HasHold chunk view = (h : HoldSheet) × (view.holds ≡ h ∷ behind view.holds) × (h.life.chunk ≡ chunk)

-- the mark of the first hold: its reference was given back where n was found
abbrev pub marks_of_release : ℕ → List HoldSheet → List GivenBack
marks_of_release word [] = []
marks_of_release word (hold ∷ hs) = record { life = hold.life; word = word } ∷ []

-- the first hold gave its reference back, of which no other step leaves the mark
abbrev pub view_after_release : ℕ → View → View
view_after_release word view =
    record view { holds = behind view.holds; returned = view.returned ++ marks_of_release word view.holds }

abbrev pub release_of_hold_tells : Tells
release_of_hold_tells chunk operand before word after = (after ≡ (view_after_release word before.0, before.1))
    × Found word (Told chunk before.0)

-- the hold looked at its chunk's head word, and found n
abbrev pub hold_after_load : ℕ → HoldSheet → HoldSheet
hold_after_load word hold = record hold { looks = hold.looks ++ word ∷ [] }

abbrev pub view_after_load_of_hold : ℕ → View → View
view_after_load_of_hold word view = record view { holds = on_first (hold_after_load word) view.holds }

abbrev pub load_of_hold_tells : Tells
load_of_hold_tells chunk operand before word after = (after ≡ (view_after_load_of_hold word before.0, before.1))
    × Found word (Told chunk before.0)

-- the word is number i of the row of the first hold, of this chunk
abbrev pub IsOfRow : ℕ → ℕ → View → ℕ → Type 0
IsOfRow i chunk view word = (h : HoldSheet) → view.holds ≡ h ∷ behind view.holds → h.life.chunk ≡ chunk
    → word ≡ slice_index h.row i

-- a hold read its label, or further word j, by which it learns nothing new
abbrev pub label_load_tells : Tells
label_load_tells chunk operand before word after = (after ≡ before) × IsOfRow 0 chunk before.0 word

abbrev pub word_load_tells : ℕ → Tells
word_load_tells index chunk operand before word after = (after ≡ before) × IsOfRow (suc index) chunk before.0 word

-- what holds of the head of each chunk at all times
pub record IsAnyHead (limit : ℕ) (head : Head) : Type 0 where
  -- the count is at most the limit, and an item has a reference for being linked
  pub within : head.refs ≤ limit
  pub linked : bit head.linked ≤ head.refs
  -- ACTIVE implies FETCHED
  pub active : bit head.active ≤ bit head.fetched

-- a seat that was made by a load of the chunk's head, which found n: it knows that load, and nothing else
abbrev pub seen_me : ℕ → ℕ → Sat
seen_me chunk word = (record blank { seen = step_of kind.Load chunk word None ∷ [] }, [])

-- a load without a seat of the caller's
abbrev pub load_without_seat_tells : ℕ → Tells
load_without_seat_tells limit chunk operand before word after = (after ≡ seen_me chunk word)
    × Found word (IsAnyHead limit)
