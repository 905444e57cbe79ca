-- How far a lane is with its bump, and what it may end the bump with.
use Rattle.std.specs.Prelude.{ℕ, Bool, true, false, not, Option, None, Some, option_map, if◌then◌else◌}
use Rattle.bump_rules.specs.declared.items.Head.{Head}
use Rattle.bump_rules.specs.declared.items.ItemId.{ItemId}
use Rattle.bump_rules.specs.declared.bumps.AppliedBump.{AppliedBump}
use Rattle.bump_rules.specs.declared.bumps.Bump.{Bump}
use Rattle.bump_rules.specs.declared.bumps.Outcome.{Outcome}
use Rattle.bump_rules.specs.declared.bumps.Outcome.TheVariants as outcome
use Rattle.bump_rules.specs.declared.lanes.LaneStage.{LaneStage}
use Rattle.bump_rules.specs.declared.lanes.LaneStage.TheVariants as lane
use Rattle.bump_rules.specs.Tables.{is_cold}

-- the bump aboard a lane, by how far the lane is
abbrev pub carried : LaneStage → Option Bump
carried (lane.Carrying bump) = Some bump
carried _ = None

abbrev pub tried : LaneStage → Option Bump
tried (lane.Tried bump) = Some bump
tried _ = None

abbrev pub applied_now : LaneStage → Option Bump
applied_now (lane.Tried bump) = Some bump
applied_now (lane.Cleared bump found) = Some bump
applied_now (lane.Moved bump) = Some bump
applied_now _ = None

-- the life on which a lane works under the class lock, if it does
abbrev pub applied_life : LaneStage → Option ItemId
applied_life stage = option_map (λ (bump : Bump). bump.life) (applied_now stage)

abbrev pub cleared_active : LaneStage → Option Bump
cleared_active (lane.Cleared bump true) = Some bump
cleared_active _ = None

abbrev pub is_empty : LaneStage → Bool
is_empty lane.Empty = true
is_empty _ = false

-- a lane with a bump that is half applied
abbrev pub is_half_made : LaneStage → Bool
is_half_made lane.Empty = false
is_half_made (lane.Carrying bump) = false
is_half_made _ = true

abbrev pub bump_of : ℕ → ItemId → Bump
bump_of number life = record { number = number; life = life }

-- a bump, and what became of it
abbrev pub applied_bump : Bump → Outcome → AppliedBump
applied_bump bump became = record { number = bump.number; life = bump.life; outcome = became }

-- what a lane may end its bump with when it looked at the head of the bump's item
abbrev pub outcome_tried : Head → Option Outcome
outcome_tried found =
    if not found.linked then Some outcome.Gone else (if is_cold found.segment then None else Some outcome.TimeOnly)

-- The bump that a lane may end, and what with, by how far the lane is and the heads of all chunks: it looked at an
-- item that it has nothing to move of, or found ACTIVE clear, or moved the item.
abbrev pub ending_at : (ℕ → Head) → LaneStage → Option AppliedBump
ending_at heads lane.Empty = None
ending_at heads (lane.Carrying bump) = None
ending_at heads (lane.Tried bump) = option_map (applied_bump bump) (outcome_tried (heads bump.life.chunk))
ending_at heads (lane.Cleared bump true) = None
ending_at heads (lane.Cleared bump false) = Some (applied_bump bump outcome.TimeOnly)
ending_at heads (lane.Moved bump) = Some (applied_bump bump outcome.Moved)
