-- What readers do with numbered holds.
use Rattle.std.specs.Prelude.{◌≡◌, ◌≢◌, ℕ, Bool, true, false, List, Option, Some, None}
use Rattle.std.specs.Prelude.{Result, Ok, Err}
use Rattle.std.specs.Prelude.{IfSome, IfNone, IfOk, IfErr, ◌+◌, ◌<◌, ◌≤◌, length, slice_get, slice_set, slice_index}
use Rattle.bump_rules.specs.declared.commands.Touch.{Touch}
use Rattle.bump_rules.specs.declared.items.Head.{Head}
use Rattle.bump_rules.specs.declared.items.ItemId.{ItemId}
use Rattle.bump_steps.specs.declared.views.HoldSheet.{HoldSheet}
use Rattle.bump_steps.specs.References.{label_of_row, word_of_row}
use Rattle.bump_steps.specs.Rule.{chunks as all_chunks}
use Rattle.bump_unlocked.specs.declared.refusals.GetRefusal.{GetRefusal}
use Rattle.bump_unlocked.specs.declared.refusals.GetRefusal.TheVariants as refused
use Rattle.bump_unlocked.specs.Gets.{WorkerGets}
use Rattle.bump_unlocked.specs.Holds.{SeesHead}
use Rattle.bump_unlocked.specs.Touches.{WorkerTouches}
use Rattle.bump_unlocked.specs.Workers.{WorkerState}
use Rattle.bump_handles.specs.declared.readers.Taken.{Taken}
use Rattle.bump_handles.specs.declared.readers.Taken.TheVariants as taken
use Rattle.bump_handles.specs.declared.readers.WholeHit.{WholeHit}
use Rattle.bump_handles.specs.Views.{ReaderView}

-- what a worker's get answered, by the names of a get into a place
abbrev pub taken_told : Result HoldSheet GetRefusal → Taken
taken_told (Ok hold) = taken.Held
taken_told (Err refused.NoSuchChunk) = taken.NoSuchChunk
taken_told (Err refused.Stale) = taken.Stale
taken_told (Err refused.RefsFull) = taken.RefsFull
taken_told (Err refused.Busy) = taken.Busy

-- the hold that was taken stands in the place
abbrev pub holds_with : Result HoldSheet GetRefusal → ℕ → List (Option HoldSheet) → List (Option HoldSheet)
holds_with (Ok hold) place holds = slice_set holds place (Some hold)
holds_with (Err refusal) place holds = holds

-- What a get into a free place comes to: the worker's get, and its hold in the place.
pub record GetsInto (place : ℕ) (item : ItemId) (before after : ReaderView) (answer : Taken) : Type 0 where
  pub took : Result HoldSheet GetRefusal
  pub gets : WorkerGets before.config item before.worker after.worker took
  pub answered : answer ≡ taken_told took
  pub left : after ≡ record before { worker = after.worker; holds = holds_with took place before.holds }

-- What a get into a place comes to.
pub record ReaderGets (place : ℕ) (item : ItemId) (before after : ReaderView) (answer : Taken) : Type 0 where
  -- there is no such place, or it has a hold
  pub no_place : slice_get before.holds place ≢ Some None → (answer ≡ taken.NoPlace) × (after ≡ before)
  pub free : slice_get before.holds place ≡ Some None → GetsInto place item before after answer

-- this hold stands in the place
abbrev pub IsHoldAt : ℕ → ReaderView → HoldSheet → Type 0
IsHoldAt place reader hold = slice_get reader.holds place ≡ Some (Some hold)

-- no item is held in the place, or there is no such place
abbrev pub HoldsNothing : ℕ → ReaderView → Type 0
HoldsNothing place reader = (hold : HoldSheet) → slice_get reader.holds place ≢ Some (Some hold)

-- an item is held there
abbrev pub HoldsOne : ℕ → ReaderView → Type 0
HoldsOne place reader = (hold : HoldSheet) × IsHoldAt place reader hold

-- an item is held there whose chunk the store doesn't have: no get gives one
abbrev pub HoldsBehindAll : ℕ → ReaderView → Type 0
HoldsBehindAll place reader = (hold : HoldSheet) × IsHoldAt place reader hold × (all_chunks reader.config ≤ hold.life.chunk)

-- What a touch of the item in a place comes to.
pub record ReaderTouches (place : ℕ) (now : ℕ) (before after : ReaderView) (answer : Option Touch) : Type 0 where
  pub no_hold : IfNone answer (HoldsNothing place before × (after ≡ before))
  pub touched : IfSome answer (λ it. (hold : HoldSheet) × IsHoldAt place before hold
      × WorkerTouches before.config hold.life now before.worker after.worker it)
  -- the ring stays the same one
  pub ring : after.worker.sender.ring ≡ before.worker.sender.ring
  pub kept : after ≡ record before { worker = after.worker }

-- The further words of a row, from this one on, stand in a slice, as far as there is room, and the rest of it is as it was.
pub record CopiesWords (row : List ℕ) (first further : ℕ) (slice told : List ℕ) : Type 0 where
  pub words : (j : ℕ) → first + j < further → j < length slice → slice_index told j ≡ word_of_row row (first + j)
  pub rest : (j : ℕ) → further ≤ first + j → slice_index told j ≡ slice_index slice j
  pub long : length told ≡ length slice

-- What reading the label of the item in a place comes to: it is the first word of its hold's row.
pub record ReaderReads (place : ℕ) (before after : ReaderView) (answer : Option ℕ) : Type 0 where
  pub no_hold : IfNone answer (HoldsNothing place before × (after ≡ before))
  pub read : IfSome answer (λ label. (hold : HoldSheet) × IsHoldAt place before hold
      × (label ≡ label_of_row hold.row) × (after ≡ before))

-- What a look at the item in a place comes to: one load of its head, which the hold notes.
pub record ReaderSees (place : ℕ) (before after : ReaderView) (answer : Option Head) : Type 0 where
  pub no_hold : IfNone answer (HoldsNothing place before × (after ≡ before))
  pub seen : IfSome answer (λ head. (hold left : HoldSheet) × IsHoldAt place before hold × SeesHead hold left head
      × (after ≡ record before { holds = slice_set before.holds place (Some left) }))

-- What reading the further words of the item in a place comes to, from this one on: as many as a slice has room for, where
-- each item has so many; the rest of the slice stays.
pub record ReaderCopies (place first further : ℕ) (before after : ReaderView) (slice told : List ℕ) (answer : Option ℕ)
    : Type 0 where
  pub no_hold : IfNone answer (HoldsNothing place before × (after ≡ before) × (told ≡ slice))
  pub count : IfSome answer (λ words. words ≡ further)
  pub same : IfSome answer (λ words. after ≡ before)
  pub copied : IfSome answer (λ words. (hold : HoldSheet) × IsHoldAt place before hold
      × CopiesWords hold.row first further slice told)

-- What giving back the hold in a place comes to.
pub record ReaderReleases (place : ℕ) (before after : ReaderView) (answer : Bool) : Type 0 where
  pub no_hold : answer ≡ false → HoldsNothing place before × (after ≡ before)
  pub released : answer ≡ true → (hold : HoldSheet) × IsHoldAt place before hold
      × (after ≡ record before { holds = slice_set before.holds place None })

-- What a whole hit comes to: a get; and where that gave a hold, a touch of it, and its label, which is the first word of
-- its row.
pub record ReaderHits (item : ItemId) (now : ℕ) (before after : ReaderView)
    (answer : Result WholeHit GetRefusal) : Type 0 where
  pub refused : IfErr answer (λ refusal. WorkerGets before.config item before.worker after.worker (Err refusal))
  pub hit : IfOk answer (λ whole. (between : WorkerState) × (hold : HoldSheet)
      × WorkerGets before.config item before.worker between (Ok hold)
      × WorkerTouches before.config hold.life now between after.worker whole.touch
      × (whole.label ≡ label_of_row hold.row))
  pub ring : after.worker.sender.ring ≡ before.worker.sender.ring
  pub kept : after ≡ record before { worker = after.worker }
