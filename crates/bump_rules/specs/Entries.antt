-- What the lanes' entries and the histories of the classes say of each other: the moves for bumps, and when an entry
-- of a lane is true. All of it is counted entry by entry, over histories and over one lane.
use Rattle.std.specs.Prelude.{◌≡◌, ◌⊎◌, ℕ, ◌+◌, ◌<◌, Bool, true, false, not, cond, ◌==◌, ◌&&◌, List, slice_get, Some}
use Rattle.bump_rules.specs.declared.items.ItemId.{ItemId}
use Rattle.bump_rules.specs.declared.history.Cause.{Cause}
use Rattle.bump_rules.specs.declared.history.Cause.TheVariants.{Pull, Bump}
use Rattle.bump_rules.specs.declared.history.Change.{Change}
use Rattle.bump_rules.specs.declared.history.Change.TheVariants as change
use Rattle.bump_rules.specs.declared.bumps.AppliedBump.{AppliedBump}
use Rattle.bump_rules.specs.declared.bumps.Outcome.{Outcome}
use Rattle.bump_rules.specs.declared.bumps.Outcome.TheVariants as outcome
use Rattle.bump_rules.specs.declared.lanes.LaneStage.{LaneStage}
use Rattle.bump_rules.specs.declared.lanes.LaneStage.TheVariants as lane
use Rattle.bump_rules.specs.Lanes.{bump_of, applied_bump}
use Rattle.bump_rules.specs.Lives.{is_same}
use Rattle.bump_rules.specs.Tables.{is_warm, is_cold}
use Rattle.bump_rules.specs.Totals.{how_many}

-- the cause is the bump of this worker with this number
abbrev pub is_bump : ℕ → ℕ → Cause → Bool
is_bump worker number Pull = false
is_bump worker number (Bump of numbered) = (of == worker) && (numbered == number)

-- the cause is a bump of this worker, whichever number it has
abbrev pub is_of_worker : ℕ → Cause → Bool
is_of_worker worker Pull = false
is_of_worker worker (Bump of numbered) = of == worker

-- the cause is a bump, whichever it is
abbrev pub is_any_bump : Cause → Bool
is_any_bump Pull = false
is_any_bump (Bump worker number) = true

-- What a history says of bumps.

-- the entry names a bump as its cause
abbrev pub names_bump : Change → Bool
names_bump (change.Linked life) = false
names_bump (change.LinkedTemp life) = false
names_bump (change.Moved life from to cause) = is_any_bump cause
names_bump (change.Unlinked life) = false
names_bump (change.Swept life) = false
names_bump (change.Retired life) = false

-- the entry names a bump as its cause, and yet is no move from COLD to WARM
abbrev pub is_stray : Change → Bool
is_stray (change.Linked life) = false
is_stray (change.LinkedTemp life) = false
is_stray (change.Moved life from to cause) = is_any_bump cause && not (is_cold from && is_warm to)
is_stray (change.Unlinked life) = false
is_stray (change.Swept life) = false
is_stray (change.Retired life) = false

-- the entry is the move from COLD to WARM for the bump of this worker with this number, of an item that passes the test
abbrev pub is_move_for : (ItemId → Bool) → ℕ → ℕ → Change → Bool
is_move_for test worker number (change.Linked life) = false
is_move_for test worker number (change.LinkedTemp life) = false
is_move_for test worker number (change.Moved life from to cause) =
    test life && (is_cold from && (is_warm to && is_bump worker number cause))
is_move_for test worker number (change.Unlinked life) = false
is_move_for test worker number (change.Swept life) = false
is_move_for test worker number (change.Retired life) = false

-- the entry is a move for a bump of this worker
abbrev pub is_move_of : ℕ → Change → Bool
is_move_of worker (change.Linked life) = false
is_move_of worker (change.LinkedTemp life) = false
is_move_of worker (change.Moved life from to cause) = is_of_worker worker cause
is_move_of worker (change.Unlinked life) = false
is_move_of worker (change.Swept life) = false
is_move_of worker (change.Retired life) = false

-- how many moves a history has for bumps of this worker
abbrev pub moves_of : ℕ → List Change → ℕ
moves_of worker history = how_many (is_move_of worker) history

-- the entry unlinks this life
abbrev pub is_unlink_of : ItemId → Change → Bool
is_unlink_of item (change.Linked life) = false
is_unlink_of item (change.LinkedTemp life) = false
is_unlink_of item (change.Moved life from to cause) = false
is_unlink_of item (change.Unlinked life) = is_same item life
is_unlink_of item (change.Swept life) = false
is_unlink_of item (change.Retired life) = false

-- What a lane says of its bumps.

-- the outcome is Moved
abbrev pub is_moved : Outcome → Bool
is_moved outcome.Moved = true
is_moved outcome.TimeOnly = false
is_moved outcome.Gone = false

-- the outcome is Gone
abbrev pub is_gone : Outcome → Bool
is_gone outcome.Moved = false
is_gone outcome.TimeOnly = false
is_gone outcome.Gone = true

-- the lane's entry tells that for the bump with this number an item was moved, which passes the test
abbrev pub is_told_moved : (ItemId → Bool) → ℕ → AppliedBump → Bool
is_told_moved test number entry = is_moved entry.outcome && ((entry.number == number) && test entry.life)

-- the lane's entry tells that an item was moved, which passes the test
abbrev pub is_told_of : (ItemId → Bool) → AppliedBump → Bool
is_told_of test entry = is_moved entry.outcome && test entry.life

-- how many entries of a lane have the outcome Moved, and are of items that pass the test
abbrev pub told_of : (ItemId → Bool) → List AppliedBump → ℕ
told_of test applied = how_many (is_told_of test) applied

-- the lane's entry tells that this life was gone
abbrev pub is_told_gone : ItemId → AppliedBump → Bool
is_told_gone item entry = is_gone entry.outcome && is_same item entry.life

-- 1 where the lane has moved an item for the bump with this number, which passes the test, and has not told it yet
abbrev pub moving : (ItemId → Bool) → ℕ → LaneStage → ℕ
moving test number lane.Empty = 0
moving test number (lane.Carrying bump) = 0
moving test number (lane.Tried bump) = 0
moving test number (lane.Cleared bump found) = 0
moving test number (lane.Moved bump) = cond ((bump.number == number) && test bump.life) 1 0

-- 1 where the lane has moved an item that passes the test, and has not told it yet
abbrev pub making : (ItemId → Bool) → LaneStage → ℕ
making test lane.Empty = 0
making test (lane.Carrying bump) = 0
making test (lane.Tried bump) = 0
making test (lane.Cleared bump found) = 0
making test (lane.Moved bump) = cond (test bump.life) 1 0

-- how many moves for the bump with this number a lane tells of, by its entries and by how far it is, of items that
-- pass the test
abbrev pub moves_told : (ItemId → Bool) → ℕ → List AppliedBump → LaneStage → ℕ
moves_told test number applied progress = how_many (is_told_moved test number) applied + moving test number progress

-- The bump with this number moved this item, and its lane shows it: its entry of this number tells of it, or the move
-- is the application in progress.
abbrev pub ShowsMove : ℕ → ItemId → List AppliedBump → LaneStage → Type 0
ShowsMove number item applied progress =
    (slice_get applied number ≡ Some (applied_bump (bump_of number item) outcome.Moved))
    ⊎ (progress ≡ lane.Moved (bump_of number item))

-- When an entry of a lane is true.

-- What an entry of a worker's lane says, over the history of its item's class. Moved: the item was moved for this very
-- bump. Gone: the item was unlinked. TimeOnly: nothing was moved for this bump, which is told by unmoved: a fact of all
-- histories, or of the lane's own steps.
abbrev pub Says : List Change → ℕ → Type 0 → AppliedBump → Outcome → Type 0
Says history worker unmoved entry outcome.Moved =
    0 < how_many (is_move_for (is_same entry.life) worker entry.number) history
Says history worker unmoved entry outcome.Gone = 0 < how_many (is_unlink_of entry.life) history
Says history worker unmoved entry outcome.TimeOnly = unmoved

-- an entry of a worker's lane is true
abbrev pub IsTrueEntry : List Change → ℕ → Type 0 → AppliedBump → Type 0
IsTrueEntry history worker unmoved entry = Says history worker unmoved entry entry.outcome
