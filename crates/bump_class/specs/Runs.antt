-- What a run of applications comes to: the bump aboard, and the next ones of its class, one after the other.
use Rattle.std.specs.Prelude.{◌≡◌, ℕ, zero, suc, ◌+◌, ◌<◌, ◌≤◌, Option, None, Some, IfSome, List, [], ◌∷◌, ◌++◌, length}
use Rattle.std.specs.Prelude.{slice_set, true, false}
use mathlib.Core.List.{IsPrefix}
use Rattle.bump_rules.specs.declared.bumps.Applied.{Applied}
use Rattle.bump_rules.specs.declared.bumps.Applied.TheVariants as applied
use Rattle.bump_rules.specs.declared.bumps.Ended.TheVariants as ended
use Rattle.bump_rules.specs.declared.bumps.Bump.{Bump}
use Rattle.bump_steps.specs.declared.views.Ride.{Ride}
use Rattle.bump_steps.specs.Views.{owns}
use Rattle.bump_heads.specs.Applying.{NamesNoBumpTwice}
use Rattle.bump_class.specs.Applications.{AppliesFront, EachMoveIsTold}
use Rattle.bump_class.specs.Books.{BookView}
use Rattle.bump_class.specs.Lanes.{LaneView, carries, entries, Boards}

-- One application of a run: the bump aboard is of the class, and what is done and told is what the application of a
-- single bump tells.
pub record AppliesOwn (now : ℕ) (book : BookView) (from : LaneView) (answer : Applied) (left : BookView)
    (to : LaneView) : Type 0 where
  pub own : IfSome (carries from) (λ bump. owns bump.life.chunk book.sheet ≡ true)
  pub front : AppliesFront now book from answer left to
  pub once : NamesNoBumpTwice left.sheet
  pub told : EachMoveIsTold left.sheet to.sheet

-- From one lane to the other the next bump went aboard, where none was, and nothing else happened.
abbrev pub HasNextAboard : Option Bump → LaneView → LaneView → Type 0
HasNextAboard None from to = (bump : Bump) × (ride : Ride) × Boards from bump to ride
HasNextAboard (Some bump) from to = to ≡ from

-- So many bumps were applied, in the order in which the lane received them.
abbrev pub AppliesRun : ℕ → BookView → LaneView → ℕ → BookView → LaneView → Type 0
AppliesRun now book from zero left to = (left ≡ book) × (to ≡ from)
AppliesRun now book from (suc count) left to = (between : BookView) × (last : LaneView) × (aboard : LaneView)
    × (answer : Applied) × AppliesRun now book from count between last × HasNextAboard (carries last) last aboard
    × AppliesOwn now between aboard answer left to

-- Behind the last application the next bump went aboard, which is this one, or nothing happened.
abbrev pub MayHaveBoarded : Option Bump → LaneView → LaneView → Type 0
MayHaveBoarded None last to = to ≡ last
MayHaveBoarded (Some bump) last to = (ride : Ride) × Boards last bump to ride

-- What a run comes to that may apply so many bumps, on its class's Book and on the lane.
pub record AppliesUpTo (limit now : ℕ) (book : BookView) (from : LaneView) (done : ℕ) (left : BookView)
    (to : LaneView) : Type 0 where
  -- so many were applied in order, and behind the last one the next may have gone aboard
  pub run : (last : LaneView) × AppliesRun now book from done left last × MayHaveBoarded (carries to) last to
  -- they are not none
  pub some : 1 ≤ done
  -- nor more than it may apply
  pub most : done ≤ limit
  -- at the limit nothing is aboard
  pub empty : done ≡ limit → carries to ≡ None
  -- the lane drains the same ring
  pub ring : to.ring ≡ from.ring
  -- and has so many entries more
  pub count : length (entries to) ≡ length (entries from) + done
  -- behind those that it had
  pub grown : IsPrefix (entries from) (entries to)
  -- the Book is of the same class, which has the same chunks
  pub class : (left.sheet.class ≡ book.sheet.class) × (left.sheet.first ≡ book.sheet.first)
      × (left.sheet.count ≡ book.sheet.count)
  -- no bump is named twice by the class's history
  pub once : NamesNoBumpTwice left.sheet
  -- each move that it has for a bump of the lane's worker is this lane's entry
  pub told : EachMoveIsTold left.sheet to.sheet

-- Why a run ended before its limit: no bump is aboard or known, or the bump aboard is of another class.
abbrev pub IsRunOver : Option Bump → BookView → LaneView → Type 0
IsRunOver None left to = to.known ≡ []
IsRunOver (Some bump) left to = owns bump.life.chunk left.sheet ≡ false

-- ---- which chunks came free

-- the chunk of an application, where it came free by that
abbrev pub freed_alone : ℕ → Applied → List ℕ
freed_alone chunk applied.Moved = []
freed_alone chunk applied.TimeOnly = []
freed_alone chunk (applied.Gone ended.Freed) = chunk ∷ []
freed_alone chunk (applied.Gone ended.Deferred) = []

-- that of the bump that was applied
abbrev pub freed_by : Option Bump → Applied → List ℕ
freed_by None answer = []
freed_by (Some bump) answer = freed_alone bump.life.chunk answer

-- it is written as the next of a slice
abbrev pub with_freed : ℕ → List ℕ → List ℕ → List ℕ
with_freed count [] slice = slice
with_freed count (chunk ∷ chunks) slice = slice_set slice count chunk

-- one more chunk can be told in a slice of this size; where it has no length nobody is told
abbrev pub HasRoomToTell : ℕ → List ℕ → Type 0
HasRoomToTell size told = 0 < size → length told < size

-- So many bumps were applied, as in AppliesRun, each while there was room to tell one more chunk, and these chunks came
-- free by that, in this order.
abbrev pub FreesRun : ℕ → ℕ → BookView → LaneView → ℕ → List ℕ → BookView → LaneView → Type 0
FreesRun now size book from zero freed left to = (left ≡ book) × (to ≡ from) × (freed ≡ [])
FreesRun now size book from (suc count) freed left to = (between : BookView) × (last : LaneView) × (aboard : LaneView)
    × (answer : Applied) × (before : List ℕ) × FreesRun now size book from count before between last
    × HasNextAboard (carries last) last aboard × AppliesOwn now between aboard answer left to × HasRoomToTell size before
    × (freed ≡ before ++ freed_by (carries aboard) answer)
