-- What workers and lanes reach for: the chunk of what a look-up answered is in range, and stands where its head says.
use Rattle.std.proofs.Common.{◌≡◌, ℕ, ◌<◌, length, Option, Some, None, sym}
use Rattle.std.specs.Prelude.{IfSome}
use Rattle.bump_rules.specs.declared.items.ItemId.{ItemId}
use Rattle.bump_rules.specs.declared.bumps.Bump.{Bump}
use Rattle.model_state.specs.State.{State, worker_at}
use Rattle.bump_rules.specs.Hands.{tried_life, life_in_hand, cleared_life}
use Rattle.bump_rules.specs.Lanes.{carried, tried, applied_now}
use Rattle.model_state.specs.Worlds.{IsLawful}
use Rattle.model_state.proofs.Enabled.{trying_from, in_hand_from, clearing_from, carrying_from, tried_from, applied_from}
use Rattle.model_state.proofs.LawfulStates.{tried_in_range, in_hand_in_range, cleared_in_range, carrying_in_range, looked_in_range, applied_in_range}

-- A worker's hand.
module _ (s : State) (o : IsLawful s) (w : ℕ) where
  -- the chunk of a bump that the worker tries to take a reference for is in range
  pub some_tried : (r : Option ItemId) → w < length s.workers → r ≡ tried_life (worker_at s w).hand
      → IfSome r (λ l. l.chunk < length s.chunks)
  some_tried None within e = tt
  some_tried (Some l) within e = tried_in_range s o w l within (trying_from (worker_at s w).hand l (sym e))

  -- so is that of a bump in its hand
  pub some_in_hand : (r : Option ItemId) → w < length s.workers → r ≡ life_in_hand (worker_at s w).hand
      → IfSome r (λ l. l.chunk < length s.chunks)
  some_in_hand None within e = tt
  some_in_hand (Some l) within e = in_hand_in_range s o w l within (in_hand_from (worker_at s w).hand l (sym e))

  -- and the one whose ACTIVE it is to clear
  pub some_cleared : (r : Option ItemId) → w < length s.workers → r ≡ cleared_life (worker_at s w).hand
      → IfSome r (λ l. l.chunk < length s.chunks)
  some_cleared None within e = tt
  some_cleared (Some l) within e = cleared_in_range s o w l within (clearing_from (worker_at s w).hand l (sym e))

-- A lane.
module _ (s : State) (o : IsLawful s) (w : ℕ) (within : w < length s.workers) where
  -- the chunk of a bump that was taken and not looked at is in range
  pub some_carried : (r : Option Bump) → r ≡ carried (worker_at s w).lane
      → IfSome r (λ b. b.life.chunk < length s.chunks)
  some_carried None e = tt
  some_carried (Some b) e = carrying_in_range s o w b within (carrying_from (worker_at s w).lane b (sym e))

  -- so is that of a bump that was looked at
  pub some_tried_bump : (r : Option Bump) → r ≡ tried (worker_at s w).lane
      → IfSome r (λ b. b.life.chunk < length s.chunks)
  some_tried_bump None e = tt
  some_tried_bump (Some b) e = looked_in_range s o w b within (tried_from (worker_at s w).lane b (sym e))

  -- so is that of a bump that is applied
  pub some_applied : (r : Option Bump) → r ≡ applied_now (worker_at s w).lane
      → IfSome r (λ b. b.life.chunk < length s.chunks)
  some_applied None e = tt
  some_applied (Some b) e = applied_in_range s o w b.life within (applied_from (worker_at s w).lane b (sym e))
