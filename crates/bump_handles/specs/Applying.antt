-- What lanes do, each with the closed worker of its ring at the end.
use Rattle.std.specs.Prelude.{◌≡◌, ℕ, zero, suc, ◌+◌, ◌-◌, ◌^◌, ◌≤◌, ◌<◌, Bool, true, false, List, [], length}
use Rattle.std.specs.Prelude.{◌⊎◌, Option, Some, None, IfSome, IfNone, IsSome, Result, IfOk, OnErr}
use Rattle.bump_rules.specs.declared.bumps.Accounts.{Accounts}
use Rattle.bump_rules.specs.declared.bumps.Bump.{Bump}
use Rattle.bump_rules.specs.Rings.{no_accounts}
use Rattle.bump_class.specs.Lanes.{LaneView, carries, entries}
use Rattle.bump_class.specs.declared.running.RunEnd.{RunEnd}
use Rattle.bump_class.specs.Runs.{AppliesRun, FreesRun, HasNextAboard, MayHaveBoarded, IsRunOver}
use Rattle.bump_class.specs.Sweeps.{told_first}
use Rattle.bump_steps.specs.Views.{owns}
use Rattle.bump_unlocked.specs.Closing.{ClosedState, AppliedAll}
use Rattle.bump_unlocked.specs.UnlockedStore.{IsBetweenStarts}
use Rattle.bump_handles.specs.declared.drainers.OtherClass.{OtherClass}
use Rattle.bump_handles.specs.declared.drainers.Rested.{Rested}
use Rattle.bump_handles.specs.declared.drainers.RestState.{RestState}
use Rattle.bump_handles.specs.declared.drainers.RestState.TheVariants as state
use Rattle.bump_handles.specs.Views.{TaggedBookView, DrainerView}

-- no class has the chunk, by the first chunk of each
abbrev pub HasNoClass : ℕ → List ℕ → Type 0
HasNoClass chunk starts = (class : ℕ) → class < 2 ^ 32 → ¬ IsBetweenStarts chunk starts class

-- Why no class is told, by the bump that is aboard then: none is aboard or known, and nothing is changed; or no class
-- has its chunk.
abbrev pub HasNoNextClass : Option Bump → DrainerView → DrainerView → Type 0
HasNoNextClass None before after = (before.lane.known ≡ []) × (after ≡ before)
HasNoNextClass (Some bump) before after = HasNoClass bump.life.chunk before.starts

-- What asking for the class of the next bump comes to: that bump is aboard from then on.
pub record TellsClass (before after : DrainerView) (answer : Option ℕ) : Type 0 where
  pub class : IfSome answer (λ class. IfSome (carries after.lane) (λ bump.
      IsBetweenStarts bump.life.chunk before.starts class))
  pub aboard : IfSome answer (λ class. IsSome (carries after.lane))
  pub next : IsSome (carries after.lane) → HasNextAboard (carries before.lane) before.lane after.lane
  pub none : IfNone answer (HasNoNextClass (carries after.lane) before after)
  pub applied : entries after.lane ≡ entries before.lane
  pub ring : after.lane.ring ≡ before.lane.ring
  pub kept : after ≡ record before { lane = after.lane }

-- What a run that applies none comes to, where the next bump, if there is one, isn't of another class: that one is aboard from
-- then on, and is the Book's; where there is none, nothing is changed.
pub record AppliesNone (book : TaggedBookView) (before after : DrainerView) : Type 0 where
  pub own : IfSome (carries after.lane) (λ bump. owns bump.life.chunk book.book.sheet ≡ true)
  pub next : IsSome (carries after.lane) → HasNextAboard (carries before.lane) before.lane after.lane
  pub empty : IfNone (carries after.lane) ((before.lane.known ≡ []) × (after ≡ before))

-- What a run of bumps that a lane applies to its class's Book comes to, by how many they were.
pub record AppliesBumps (now limit : ℕ) (book : TaggedBookView) (before : DrainerView) (left : TaggedBookView)
    (after : DrainerView) (count : ℕ) : Type 0 where
  pub none : count ≡ 0 → (left ≡ book) × (entries after.lane ≡ entries before.lane)
  pub awaits : count ≡ 0 → AppliesNone book before after
  -- none was applied only where none was to be, or there is no next one
  pub nothing : count ≡ 0 → 0 < limit → carries after.lane ≡ None
  -- the next bump went aboard, where none was, and it and the next ones were applied, as a Book applies a run
  pub applied : 0 < count → (aboard : LaneView) × (last : LaneView)
      × HasNextAboard (carries before.lane) before.lane aboard
      × AppliesRun now book.book aboard count left.book last
      × MayHaveBoarded (carries after.lane) last after.lane
  pub most : count ≤ limit
  -- it ended early only where no bump is aboard or known, or the next is of another class
  pub over : count < limit → IsRunOver (carries after.lane) left.book after.lane
  -- else the next one didn't go aboard
  pub full : 0 < count → count ≡ limit → carries after.lane ≡ None
  pub grown : length (entries after.lane) ≡ length (entries before.lane) + count
  pub ring : after.lane.ring ≡ before.lane.ring
  pub kept : after ≡ record before { lane = after.lane }
  pub store : left.store ≡ book.store

-- The next bump is of another class: it is aboard from then on, and nothing is applied.
pub record IsOfOtherClass (book : TaggedBookView) (before : DrainerView) (left : TaggedBookView) (after : DrainerView)
    : Type 0 where
  pub other : IfSome (carries after.lane) (λ bump. owns bump.life.chunk book.book.sheet ≡ false)
  pub aboard : IsSome (carries after.lane)
  pub next : HasNextAboard (carries before.lane) before.lane after.lane
  pub applied : entries after.lane ≡ entries before.lane
  pub ring : after.lane.ring ≡ before.lane.ring
  pub kept : after ≡ record before { lane = after.lane }
  pub same : left ≡ book

-- What a run comes to that a lane is to apply to a Book.
pub record DrainerApplies (now limit : ℕ) (book : TaggedBookView) (before : DrainerView) (left : TaggedBookView)
    (after : DrainerView) (answer : Result ℕ OtherClass) : Type 0 where
  pub applies : IfOk answer (λ count. AppliesBumps now limit book before left after count)
  pub other : OnErr answer (IsOfOtherClass book before left after)

-- What a run comes to that tells in a slice which chunks came free, and ends where that is full.
pub record FreesBumps (now limit : ℕ) (book : TaggedBookView) (before : DrainerView) (slice : List ℕ)
    (left : TaggedBookView) (after : DrainerView) (told : List ℕ) (end : RunEnd) : Type 0 where
  pub none : end.applied ≡ 0 → (left ≡ book) × (entries after.lane ≡ entries before.lane)
  pub awaits : end.applied ≡ 0 → AppliesNone book before after
  pub nothing : end.applied ≡ 0 → 0 < limit → 0 < length slice → carries after.lane ≡ None
  pub none_freed : end.applied ≡ 0 → (told ≡ slice) × (end.freed ≡ 0)
  -- the bumps were applied as in a run, and these chunks came free by that, in this order
  pub applied : 0 < end.applied → (aboard : LaneView) × (last : LaneView) × (chunks : List ℕ)
      × HasNextAboard (carries before.lane) before.lane aboard
      × FreesRun now (length slice) book.book aboard end.applied chunks left.book last
      × MayHaveBoarded (carries after.lane) last after.lane
      × (told ≡ told_first chunks slice) × (end.freed ≡ length chunks)
  pub most : end.applied ≤ limit
  pub few : end.freed ≤ length slice
  -- it ended early only where the slice is full, no bump is aboard or known, or the next is of another class
  pub over : end.applied < limit → end.freed < length slice → IsRunOver (carries after.lane) left.book after.lane
  pub full : 0 < end.applied → end.applied ≡ limit → carries after.lane ≡ None
  pub full_slice : 0 < end.applied → end.freed ≡ length slice → carries after.lane ≡ None
  pub grown : length (entries after.lane) ≡ length (entries before.lane) + end.applied
  pub ring : after.lane.ring ≡ before.lane.ring
  pub kept : after ≡ record before { lane = after.lane }
  pub store : left.store ≡ book.store

pub record DrainerFrees (now limit : ℕ) (book : TaggedBookView) (before : DrainerView) (slice : List ℕ)
    (left : TaggedBookView) (after : DrainerView) (told : List ℕ) (answer : Result RunEnd OtherClass) : Type 0 where
  pub applies : IfOk answer (λ end. FreesBumps now limit book before slice left after told end)
  pub other : OnErr answer (IsOfOtherClass book before left after)
  pub untold : OnErr answer (told ≡ slice)

-- how far a lane is whose worker is closed, and whose ring has so many bumps left
abbrev pub state_of_left : ℕ → RestState
state_of_left zero = state.Settled
state_of_left (suc others) = state.Left

-- What is left of a ring whose worker is closed with these counts, where so many of its bumps were applied: the others
-- that it accepted, where it shows its end; else it isn't known.
abbrev pub rested_closed : Bool → Accounts → ℕ → Rested
rested_closed true counts applied = record {
  state = state_of_left (counts.accepted - applied);
  left = counts.accepted - applied;
  counts = counts;
  applied = applied;
}
rested_closed false counts applied = record { state = state.Unseen; left = 0; counts = counts; applied = applied }

-- What is left of a ring, by its worker if that is closed, where so many of its bumps were applied, and a worker that
-- isn't closed is in this state. Of one whose worker isn't closed nothing else is told.
abbrev pub rested : Option ClosedState → RestState → ℕ → Rested
rested None unclosed applied = record { state = unclosed; left = 0; counts = no_accounts; applied = applied }
rested (Some closed) unclosed applied = rested_closed closed.sender.shows_end closed.sheet.accounts applied

-- a worker that isn't closed is Open, or it is gone, and never will be
abbrev pub IsNotClosed : RestState → Type 0
IsNotClosed it = (it ≡ state.Open) ⊎ (it ≡ state.Gone)

-- What asking what is left of a lane's ring comes to.
pub record DrainerRests (before after : DrainerView) (answer : Rested) : Type 0 where
  pub told : answer ≡ rested before.closed answer.state (length (entries before.lane))
  pub is_open : before.closed ≡ None → IsNotClosed answer.state
  pub not_closed : IsNotClosed answer.state → before.closed ≡ None
  -- the lane has applied all that the ring accepted, once each and in order
  pub settled : answer.state ≡ state.Settled → IfSome before.closed (λ closed.
      AppliedAll closed.sender.sent after.lane)
  pub accepted : answer.state ≡ state.Settled → answer.applied ≡ answer.counts.accepted
  pub left : answer.state ≡ state.Left → (0 < answer.left)
      × (answer.applied + answer.left ≡ answer.counts.accepted)
  pub counts : IfSome before.closed (λ closed. answer.counts ≡ closed.sheet.accounts)
  pub applied : answer.applied ≡ length (entries after.lane)
  pub kept : after ≡ record before { lane = record before.lane { known = after.lane.known } }
