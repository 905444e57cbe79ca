-- What a lawful ring is, by what was sent and received, what lawful accounts are, and bumps by their numbers.
use Rattle.std.specs.Prelude.{◌≡◌, ℕ, suc, ◌+◌, ◌≤◌, List, [], ◌∷◌, ◌++◌, length, drop}
use Rattle.bump_rules.specs.declared.items.ItemId.{ItemId}
use Rattle.bump_rules.specs.declared.bumps.Accounts.{Accounts}
use Rattle.bump_rules.specs.declared.bumps.AppliedBump.{AppliedBump}
use Rattle.bump_rules.specs.declared.bumps.Bump.{Bump}
use Rattle.bump_rules.specs.declared.lanes.LaneStage.{LaneStage}
use Rattle.bump_rules.specs.declared.lanes.LaneStage.TheVariants as lane
use Rattle.bump_rules.specs.declared.hands.Hand.{Hand}
use Rattle.bump_rules.specs.declared.hands.Hand.TheVariants as hand

-- what was sent, and not received
abbrev pub left_of : List ItemId → List ItemId → List ItemId
left_of sent received = drop (length received) sent

-- the bump aboard a lane, if any
abbrev pub aboard : LaneStage → List Bump
aboard lane.Empty = []
aboard (lane.Carrying bump) = bump ∷ []
aboard (lane.Tried bump) = bump ∷ []
aboard (lane.Cleared bump found) = bump ∷ []
aboard (lane.Moved bump) = bump ∷ []

-- an applied bump, without what became of it
abbrev pub bump_applied : AppliedBump → Bump
bump_applied entry = record { number = entry.number; life = entry.life }

-- lives as bumps, numbered from this number on
abbrev pub numbered_from : ℕ → List ItemId → List Bump
numbered_from number [] = []
numbered_from number (life ∷ lives) = record { number = number; life = life } ∷ numbered_from (suc number) lives

-- 1 while an attempt is under way that is not yet counted as accepted or dropped; after a drop only ACTIVE is still
-- to be cleared
abbrev pub attempts_of : Hand → ℕ
attempts_of hand.Idle = 0
attempts_of (hand.Trying life) = 1
attempts_of (hand.InHand life) = 1
attempts_of (hand.Clearing life) = 0

-- the accounts of a worker that has attempted nothing
abbrev pub no_accounts : Accounts
no_accounts = record { attempted = 0; accepted = 0; full = 0; busy = 0; refs = 0 }

-- No worker attempts more bumps than this.
abbrev pub most_attempts : ℕ
most_attempts = 4611686018427387903

-- a lawful ring, by what was sent and what was received
pub record IsRing (capacity : ℕ) (sent received : List ItemId) : Type 0 where
  -- what was received is a prefix of what was sent
  pub prefix : sent ≡ received ++ left_of sent received
  -- the ring is never over its capacity
  pub room : length (left_of sent received) ≤ capacity

-- lawful accounts of a worker, by how many bumps its ring accepted and how far it is with an attempt
pub record IsAccounts (accounts : Accounts) (sent : ℕ) (progress : Hand) : Type 0 where
  -- accepted bumps are those sent
  pub accepted : accounts.accepted ≡ sent
  -- accepted and dropped bumps, and the attempt under way, add up to those attempted
  pub attempted : accounts.attempted
      ≡ accounts.accepted + accounts.full + accounts.busy + accounts.refs + attempts_of progress
  -- and no worker attempts more than may be
  pub most : accounts.attempted ≤ most_attempts
