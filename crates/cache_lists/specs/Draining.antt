-- What the turn of a lane does to a Book, which applies the bumps at the front of its ring.
use Rattle.std.specs.Prelude.{◌≡◌, ℕ, zero, suc, ◌+◌, ◌≤◌, ◌⊎◌, length, Option, Some, None, IfSome, IfNone, IsSome}
use Rattle.bump_rules.specs.declared.bumps.Applied.{Applied}
use Rattle.bump_rules.specs.declared.bumps.Bump.{Bump}
use Rattle.bump_rules.specs.declared.items.Head.{Head}
use Rattle.bump_steps.specs.declared.views.Ride.{Ride}
use Rattle.bump_class.specs.Applications.{AppliesFront}
use Rattle.bump_class.specs.Books.{BookView}
use Rattle.bump_class.specs.Changes.{book_after_load}
use Rattle.bump_class.specs.Lanes.{Boards, LaneView, carries, entries}
use Rattle.cache_lists.specs.Items.{KeepsItems, HasNoBumpFor}

-- The lane has this bump aboard: it had it before, or took it from its ring.
pub record HasAboard (from : LaneView) (bump : Bump) (carrying : LaneView) : Type 0 where
  pub aboard : carries carrying ≡ Some bump
  pub kept : IsSome (carries from) → carrying ≡ from
  pub next : carries from ≡ None → (ride : Ride) × Boards from bump carrying ride

-- What is applied to a Book and a lane: the lane has the bump aboard, and the head of the bump's chunk was looked at.
pub record AppliesAboard (now : ℕ) (before : BookView) (from : LaneView) (answer : Applied) (after : BookView)
    (to : LaneView) : Type 0 where
  pub bump : Bump
  pub carrying : LaneView
  pub aboard : HasAboard from bump carrying
  pub found : Head
  pub front : AppliesFront now (book_after_load bump.life.chunk found before) carrying answer after to

-- Nothing of the Book is new where there was no bump that it can apply, but that the head of the chunk of the one aboard
-- was looked at, or not even that.
abbrev pub LooksAtMost : BookView → LaneView → BookView → Type 0
LooksAtMost before to after = (after ≡ before) ⊎ ((bump : Bump) × (carries to ≡ Some bump)
    × ((found : Head) × (after ≡ book_after_load bump.life.chunk found before)))

-- The next bump of a lane was applied at this time, and what that came to is told; or None where there was none that the
-- Book can apply. The same items are linked, and the lane stays that of its ring.
pub record AppliesNext (now : ℕ) (before : BookView) (from : LaneView) (answer : Option Applied) (after : BookView)
    (to : LaneView) : Type 0 where
  pub items : KeepsItems before after
  pub ring : to.ring ≡ from.ring
  -- the lane has one entry more
  pub applies : IfSome answer (λ it. AppliesAboard now before from it after to)
  pub grown : IfSome answer (λ it. length (entries to) ≡ length (entries from) + 1)
  -- or there was none
  pub none : IfNone answer (HasNoBumpFor before to)
  pub kept : IfNone answer (entries to ≡ entries from)
  pub looks : IfNone answer (LooksAtMost before to after)

-- One bump of a lane was applied at this time: the lane has one entry more, and the same items are linked.
pub record AppliesOnce (now : ℕ) (book : BookView) (from : LaneView) (left : BookView) (to : LaneView) : Type 0 where
  pub answer : Applied
  pub applies : AppliesAboard now book from answer left to
  pub grown : length (entries to) ≡ length (entries from) + 1
  pub items : KeepsItems book left

-- so many bumps of a lane were applied, one after the other
abbrev pub AppliesEach : ℕ → ℕ → BookView → LaneView → BookView → LaneView → Type 0
AppliesEach zero now book from left to = (left ≡ book) × (to ≡ from)
AppliesEach (suc count) now book from left to = (between : BookView) × (half : LaneView)
    × AppliesEach count now book from between half × AppliesOnce now between half left to

-- A lane was asked for one more bump and had none that the Book can apply: none was applied.
pub record HasNoMore (book : BookView) (from : LaneView) (left : BookView) (to : LaneView) : Type 0 where
  pub none : HasNoBumpFor book to
  pub kept : entries to ≡ entries from
  pub items : KeepsItems book left
  pub looks : LooksAtMost book to left

-- The turn of a lane: bumps were applied one after the other, as many as it may or until it had no more.
pub record DrainsLane (most now : ℕ) (book : BookView) (from : LaneView) (left : BookView) (to : LaneView) : Type 0 where
  pub count : ℕ
  pub few : count ≤ most
  pub between : BookView
  pub half : LaneView
  pub applies : AppliesEach count now book from between half
  pub ends : ((count ≡ most) × (left ≡ between) × (to ≡ half)) ⊎ HasNoMore between half left to
  pub grown : length (entries to) ≡ length (entries from) + count
  pub ring : to.ring ≡ from.ring
