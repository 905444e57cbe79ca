-- The bump that a lane applies next: its life has a reference, and its chunk is in range.
use Rattle.std.proofs.Common.{◌≡◌, ℕ, ◌<◌, length, Option, Some, None, refl, sym, ap, arith, ◌∙◌}
use Rattle.std.specs.Prelude.{IfSome}
use Rattle.std.specs.Option.{option_map_or}
use Rattle.bump_rules.specs.declared.items.ItemId.{ItemId}
use Rattle.bump_rules.specs.declared.bumps.Bump.{Bump}
use Rattle.bump_rules.specs.declared.lanes.LaneStage.{LaneStage}
use Rattle.bump_rules.specs.declared.lanes.LaneStage.TheVariants as lane
use Rattle.bump_rules.specs.Lives.{one_if, count_of}
use Rattle.bump_rules.specs.Lanes.{bump_of}
use Rattle.model_state.specs.State.{State, WorkerState, worker_at}
use Rattle.model_state.specs.Events.{next_bump}
use Rattle.bump_core.specs.Commands.{bump_next}
use Rattle.model_state.specs.Worlds.{IsLawful, in_lane_of, bumps_of, references}
use Rattle.model_state.proofs.LawfulStates.{one_if_same, bumps_counted, referred_in_range}
use Rattle.model_state.proofs.Ring.{next_in_ring}

-- the next bump has a reference
next_counted : (x : WorkerState) (b : Bump) → bump_next x ≡ Some b → 0 < bumps_of b.life x
next_counted x b next = by x.lane refl
  where
    read : (z : LaneStage) → x.lane ≡ z → bump_next (record x { lane = z }) ≡ Some b
    read z is = sym (ap (λ l. bump_next (record x { lane = l })) is) ∙ next

    empty : (m : Option ItemId) → next_bump x ≡ m → option_map_or (λ l. Some (bump_of (length x.received) l)) m None
        ≡ Some b → 0 < bumps_of b.life x
    empty None is e = absurd (let u : ⊥ = cc in u)
    empty (Some l) is e = let same : l ≡ b.life = cc in omega (
      arith,
      ap (count_of b.life) (next_in_ring x l is),
      ap (one_if b.life) same,
      one_if_same b.life,
    )

    by : (z : LaneStage) → x.lane ≡ z → 0 < bumps_of b.life x
    by lane.Empty is = empty (next_bump x) refl (read lane.Empty is)
    by (lane.Carrying d) is = let same : d ≡ b = cc (read (lane.Carrying d) is) in
        omega (arith, ap (in_lane_of b.life) is, ap (λ (z : Bump). one_if b.life z.life) same, one_if_same b.life)
    by (lane.Tried d) is = absurd (let u : ⊥ = cc (read (lane.Tried d) is) in u)
    by (lane.Cleared d found) is = absurd (let u : ⊥ = cc (read (lane.Cleared d found) is) in u)
    by (lane.Moved d) is = absurd (let u : ⊥ = cc (read (lane.Moved d) is) in u)

module _ (s : State) (o : IsLawful s) (w : ℕ) (within : w < length s.workers) where
  -- the next bump's life has a reference
  pub next_referred : (b : Bump) → bump_next (worker_at s w) ≡ Some b → 0 < references s b.life.chunk b.life.generation
  next_referred b next = omega (arith, bumps_counted s b.life w within, next_counted (worker_at s w) b next)

  -- its chunk is in range
  pub some_next_in_range : (r : Option Bump) → r ≡ bump_next (worker_at s w)
      → IfSome r (λ b. b.life.chunk < length s.chunks)
  some_next_in_range None is = tt
  some_next_in_range (Some b) is = referred_in_range s o b.life.chunk b.life.generation (next_referred b (sym is))
