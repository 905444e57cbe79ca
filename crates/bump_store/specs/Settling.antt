-- What lanes do with rings that are closed.
use Rattle.std.specs.Prelude.{◌≡◌, ℕ, suc, ◌+◌, ◌*◌, ◌≤◌, ◌⊎◌, List, [], ◌∷◌, ◌++◌, length}
use mathlib.Core.List.{IsPrefix}
use Rattle.bump_rules.specs.declared.bumps.Entry.{Entry}
use Rattle.bump_rules.specs.declared.lanes.LaneStage.TheVariants.{Empty}
use Rattle.bump_steps.specs.declared.views.Ride.{Ride}
use Rattle.bump_class.specs.Lanes.{LaneView, entries}
use Rattle.bump_unlocked.specs.Closing.{AppliedAll}
use Rattle.bump_store.specs.Lanes.{AppliesNext, NothingAboard, applied_bump_of}

-- A lane may have been shown the end of its ring, of this room and of which this was sent: then it knows all that is
-- left, which has room in the ring.
pub record MaySeeEnd (sent : List Ride) (capacity : ℕ) (before after : LaneView) : Type 0 where
  pub lane : after ≡ record before { known = after.known }
  pub left : (after ≡ before) ⊎ ((sent ≡ after.received ++ after.known) × (length after.known ≤ capacity))

-- A lane as it is so many bumps later.
pub record IsLater (count : ℕ) (before after : LaneView) : Type 0 where
  -- it took so many bumps out of its ring, and first those that it knew: none is left out, and none comes between
  pub took : length after.received ≡ length before.received + count
  pub received : IsPrefix before.received after.received
  pub known : IsPrefix (before.received ++ before.known) (after.received ++ after.known)
  -- behind the entries that it had it has one of each, and it made two steps for each
  pub told : length (entries after) ≡ length (entries before) + count
  pub entries_stay : IsPrefix (entries before) (entries after)
  pub made : length after.sheet.steps ≡ length before.sheet.steps + 2 * count
  pub steps_stay : IsPrefix before.sheet.steps after.sheet.steps
  -- its ring stays, and its worker
  pub ring : after.ring ≡ before.ring
  pub worker : after.sheet.worker ≡ before.sheet.worker

-- One of the bumps between two states of a lane was applied: so many of them came before it, and so many behind it.
pub record IsAppliedBetween (now earlier others : ℕ) (before after : LaneView) : Type 0 where
  -- there is a state of the lane behind the earlier ones, with none aboard, in which it was the next, and it was
  -- applied at this time
  pub from : LaneView
  pub entry : Entry
  pub to : LaneView
  pub since : IsLater earlier before from
  pub idle : NothingAboard from
  pub next : AppliesNext now from entry to
  -- then the lane told it, and the others came behind
  pub tells : entries to ≡ entries from ++ applied_bump_of entry ∷ []
  pub until : IsLater others to after

-- A lane is so many bumps later, and each of them was applied at this time.
pub record AppliesEach (now count : ℕ) (before after : LaneView) : Type 0 where
  pub later : IsLater count before after
  pub each : (earlier others : ℕ) → earlier + suc others ≡ count → IsAppliedBetween now earlier others before after

-- What a lane did with a closed ring.
pub record Settles (now : ℕ) (before after : LaneView) : Type 0 where
  pub count : ℕ
  pub applied : AppliesEach now count before after
  -- what it applied is what it took out of its ring, once each and in order, and no bump is half applied
  pub order : AppliedAll after.received after
  pub empty : after.sheet.stage ≡ Empty
  -- none is known to be left
  pub known : after.known ≡ []
