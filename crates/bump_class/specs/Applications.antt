-- What applying the bump aboard a lane answers and leaves: the update table, by the heads that its steps found.
use Rattle.std.specs.Prelude.{◌≡◌, ℕ, ◌+◌, ◌<◌, List, [], ◌∷◌, ◌++◌, length, None, Some, slice_get, if◌then◌else◌}
use Rattle.bump_rules.specs.declared.bumps.Applied.{Applied}
use Rattle.bump_rules.specs.declared.bumps.Applied.TheVariants as applied
use Rattle.bump_rules.specs.declared.bumps.Bump.{Bump}
use Rattle.bump_rules.specs.declared.bumps.Ended.{Ended}
use Rattle.bump_rules.specs.declared.bumps.Outcome.{Outcome}
use Rattle.bump_rules.specs.declared.bumps.Outcome.TheVariants as outcome
use Rattle.bump_rules.specs.declared.history.Cause.TheVariants as cause
use Rattle.bump_rules.specs.declared.history.Change.TheVariants as change
use Rattle.bump_rules.specs.declared.items.Head.{Head}
use Rattle.bump_rules.specs.declared.items.ItemId.{ItemId}
use Rattle.bump_rules.specs.declared.lanes.LaneStage.TheVariants as lane
use Rattle.bump_rules.specs.declared.places.Place.TheVariants.{Warm}
use Rattle.bump_rules.specs.declared.places.Segment.TheVariants as segment
use Rattle.bump_rules.specs.declared.bumps.AppliedBump.{AppliedBump}
use Rattle.bump_rules.specs.Entries.{is_move_for, told_of}
use Rattle.bump_rules.specs.Lanes.{bump_of, applied_bump}
use Rattle.bump_rules.specs.Lawful.{Shows}
use Rattle.bump_rules.specs.Lists.{to_front}
use Rattle.bump_rules.specs.Lives.{is_same}
use Rattle.bump_rules.specs.Tables.{is_cold, outcome_of, ended_of}
use Rattle.bump_rules.specs.Totals.{how_many}
use Rattle.bump_word.specs.Words.{word_of, Fits}
use Rattle.bump_steps.specs.declared.views.ClassSheet.{ClassSheet}
use Rattle.bump_steps.specs.declared.views.Kind.{Kind}
use Rattle.bump_steps.specs.declared.views.Kind.TheVariants as kind
use Rattle.bump_steps.specs.declared.views.LaneSheet.{LaneSheet}
use Rattle.bump_steps.specs.Plays.{step_of}
use Rattle.bump_steps.specs.Views.{owns}
use Rattle.bump_heads.specs.declared.views.ClassView.{ClassView}
use Rattle.bump_heads.specs.Applying.{IsShown, FoundOfBump, NamesNoBumpTwice, TellsMoves}
use Rattle.bump_heads.specs.Linking.{place_of_chunk}
use Rattle.bump_class.specs.Books.{BookView}
use Rattle.bump_class.specs.Changes.{book_after_sweep_or_load}
use Rattle.bump_class.specs.Lanes.{LaneView, carries, entries}

-- The heads that the steps of one application found. Of a step that wasn't made it says nothing.
pub record FoundHeads : Type 0 where
  -- the look at the item
  pub tried : Head
  -- the clearing of its ACTIVE, and its move
  pub cleared : Head
  pub moved : Head
  -- the giving back of the bump's reference
  pub last : Head
  -- behind that, where the item was gone, one more look
  pub behind : Head

-- ---- single steps of the class, each made for this bump of a worker

-- a step on the bump's chunk is noted
abbrev pub noted_for : Kind → ℕ → Bump → ℕ → ClassSheet → ClassSheet
noted_for kind worker bump word class =
    record class { steps = class.steps ++ step_of kind bump.life.chunk word (Some (worker, bump.number)) ∷ [] }

-- the time of its item was stored
abbrev pub class_with_time : ℕ → Bump → ℕ → ClassSheet → ClassSheet
class_with_time worker bump now class = noted_for kind.PutTime worker bump now class

-- ACTIVE of its item was cleared
abbrev pub with_clearing : ℕ → Bump → Head → ClassSheet → ClassSheet
with_clearing worker bump found class = noted_for kind.ClearActive worker bump (word_of found) class

-- its item was moved from COLD to WARM
abbrev pub with_move : ℕ → Bump → Head → ClassSheet → ClassSheet
with_move worker bump found class = noted_for kind.Move worker bump (word_of found) (record class {
  history = class.history
      ++ change.Moved bump.life segment.Cold segment.Warm (cause.Bump worker bump.number) ∷ [];
})

-- ---- the whole, by its outcome

-- Moved: the time was stored, ACTIVE cleared, and the item moved. TimeOnly: the time was stored, and ACTIVE of an item
-- in COLD cleared. Gone: nothing.
abbrev pub class_after_update : Outcome → ℕ → Bump → ℕ → FoundHeads → ClassSheet → ClassSheet
class_after_update outcome.Moved worker bump now found class =
    with_move worker bump found.moved (with_clearing worker bump found.cleared (class_with_time worker bump now class))
class_after_update outcome.TimeOnly worker bump now found class =
    if is_cold found.tried.segment then with_clearing worker bump found.cleared (class_with_time worker bump now class)
    else class_with_time worker bump now class
class_after_update outcome.Gone worker bump now found class = class

-- Moved: the chunk is the first of WARM. Gone: it was looked at once more, and is free where nobody holds it.
abbrev pub book_after_update : Outcome → ℕ → Bump → ℕ → FoundHeads → BookView → BookView
book_after_update outcome.Moved worker bump now found book = record book {
  sheet = class_after_update outcome.Moved worker bump now found book.sheet;
  lists = to_front bump.life.chunk Warm book.lists;
}
book_after_update outcome.TimeOnly worker bump now found book =
    record book { sheet = class_after_update outcome.TimeOnly worker bump now found book.sheet }
book_after_update outcome.Gone worker bump now found book =
    book_after_sweep_or_load bump.life.chunk found.behind book

-- the lane looked at the item, gave the reference back, and has the entry; nothing is aboard
abbrev pub lane_after_update : Outcome → Bump → FoundHeads → LaneSheet → LaneSheet
lane_after_update came_out bump found this_lane = record this_lane {
  stage = lane.Empty;
  applied = this_lane.applied ++ applied_bump bump came_out ∷ [];
  steps = (this_lane.steps
      ++ step_of kind.Try bump.life.chunk (word_of found.tried) (Some (this_lane.worker, bump.number)) ∷ [])
      ++ step_of kind.Alight bump.life.chunk (word_of found.last) (Some (this_lane.worker, bump.number)) ∷ [];
}

-- what is answered, by the outcome and by what became of an item that was gone
abbrev pub applied_answer : Outcome → Ended → Applied
applied_answer outcome.Moved ended = applied.Moved
applied_answer outcome.TimeOnly ended = applied.TimeOnly
applied_answer outcome.Gone ended = applied.Gone ended

-- Each head is one that a word spells.
pub record AllFit (found : FoundHeads) : Type 0 where
  pub tried : Fits found.tried
  pub cleared : Fits found.cleared
  pub moved : Fits found.moved
  pub last : Fits found.last

-- What the steps of an application come to on a class's seat and the sheet of the lane that carries the bump.
pub record Updates (before : ClassView) (lane_before : LaneSheet) (bump : Bump) (now : ℕ) (came_out : Outcome)
    (after : ClassView) (lane_after : LaneSheet) (found : FoundHeads) : Type 0 where
  pub fit : AllFit found
  pub sight : FoundOfBump before.sheet bump.life found.tried
  pub table : came_out ≡ outcome_of found.tried found.cleared
  pub class : after ≡ record before { sheet = class_after_update came_out lane_before.worker bump now found before.sheet }
  pub lane : lane_after ≡ lane_after_update came_out bump found lane_before
  -- the entry is true, no bump is named twice, and each move for a bump of the lane is told by it
  pub entry : IsShown after.sheet lane_after bump came_out
  pub once : NamesNoBumpTwice after.sheet
  pub told : TellsMoves after.sheet lane_after

-- What applying a bump comes to: the answer, and the Book and the lane after.
pub record Applies (book : BookView) (from : LaneView) (bump : Bump) (now : ℕ) (came_out : Outcome) (answer : Applied)
    (left : BookView) (to : LaneView) (found : FoundHeads) : Type 0 where
  pub fit : AllFit found
  pub behind_fits : Fits found.behind
  -- the look found the bump's life, of which there was a reference, and a head that agrees with the chunk's list
  pub generation : found.tried.generation ≡ bump.life.generation
  pub counted : 0 < found.tried.refs
  pub shows : Shows found.tried (place_of_chunk book.sheet bump.life.chunk)
  -- the outcome is the update table's, by what the look and the clearing found
  pub table : came_out ≡ outcome_of found.tried found.cleared
  -- a gone item is free where nobody holds it any more
  pub answered : answer ≡ applied_answer came_out (ended_of found.behind)
  pub book_after : left ≡ book_after_update came_out from.sheet.worker bump now found book
  pub lane_after : to ≡ record from { sheet = lane_after_update came_out bump found from.sheet }
  -- the entry that the lane has now is true
  pub entry : IsShown left.sheet to.sheet bump came_out

-- the bump aboard a lane was applied
abbrev pub AppliesFront : ℕ → BookView → LaneView → Applied → BookView → LaneView → Type 0
AppliesFront now book from answer left to = (bump : Bump) × (came_out : Outcome) × (found : FoundHeads)
    × (carries from ≡ Some bump) × Applies book from bump now came_out answer left to found

-- how many entries with outcome Moved there are of items of the class
abbrev pub moved_in : ClassSheet → List AppliedBump → ℕ
moved_in class applied = told_of (λ life. owns life.chunk class) applied

-- each move that the class's history has for a bump of the lane's worker is this lane's entry of that number, with the
-- same life and the outcome Moved
abbrev pub EachMoveIsTold : ClassSheet → LaneSheet → Type 0
EachMoveIsTold class this_lane = (item : ItemId) (number : ℕ)
    → 0 < how_many (is_move_for (is_same item) this_lane.worker number) class.history
    → slice_get this_lane.applied number ≡ Some (applied_bump (bump_of number item) outcome.Moved)

-- What the application of the bump aboard a lane comes to, on its class's Book and on the lane.
pub record AppliesBump (now : ℕ) (book : BookView) (from : LaneView) (answer : Applied) (left : BookView)
    (to : LaneView) : Type 0 where
  -- it is done and told by the update table
  pub front : AppliesFront now book from answer left to
  -- the lane drains the same ring
  pub ring : to.ring ≡ from.ring
  -- and knows the same bumps of it
  pub known : to.known ≡ from.known
  -- nothing is aboard
  pub empty : carries to ≡ None
  -- the lane has one entry more
  pub count : length (entries to) ≡ length (entries from) + 1
  -- the Book is of the same class, which has the same chunks
  pub class : (left.sheet.class ≡ book.sheet.class) × (left.sheet.first ≡ book.sheet.first)
      × (left.sheet.count ≡ book.sheet.count)
  -- no bump is named twice by the class's history
  pub once : NamesNoBumpTwice left.sheet
  -- each move that it has for a bump of the lane's worker is this lane's entry
  pub told : EachMoveIsTold left.sheet to.sheet
