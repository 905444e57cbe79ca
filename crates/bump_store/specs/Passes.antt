-- What a maintainer's pass comes to.
use Rattle.std.specs.Prelude.{◌≡◌, ℕ, ◌+◌, ◌≤◌, ◌<◌, List, [], Some, length, slice_get}
use Rattle.bump_rules.specs.Totals.{total}
use Rattle.bump_class.specs.Lanes.{entries}
use Rattle.bump_store.specs.Lanes.{LaneState, AppliesMany}

-- how many bumps lanes have applied together
abbrev pub all_applied : List LaneState → ℕ
all_applied lanes = total (λ this_lane. length (entries this_lane.lane)) lanes

-- A lane was drained once.
pub record IsDrained (now : ℕ) (before after : LaneState) : Type 0 where
  -- so many next bumps were applied, at most as many as its ring has room for
  pub count : ℕ
  pub most : count ≤ before.capacity
  pub applied : AppliesMany now before.lane count after.lane
  pub grown : length (entries after.lane) ≡ length (entries before.lane) + count
  -- fewer only where then none is known to be left
  pub none : count < before.capacity → after.lane.known ≡ []
  -- its ring stays, with its room
  pub ring : after.lane.ring ≡ before.lane.ring
  pub capacity : after.capacity ≡ before.capacity

-- Each of these lanes, by its worker's number, was drained once.
pub record AllDrained (now : ℕ) (befores afters : List LaneState) : Type 0 where
  pub as_many : length afters ≡ length befores
  pub each : (worker : ℕ) (before after : LaneState) → slice_get befores worker ≡ Some before
      → slice_get afters worker ≡ Some after → IsDrained now before after
