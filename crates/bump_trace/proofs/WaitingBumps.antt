-- A drain with room for the bumps that wait applies each of them, whatever its room.
use Rattle.std.proofs.Common.{◌≡◌, ℕ, zero, suc, ◌<◌, ◌≤◌, refl, sym, ap, ◌∙◌, [], ◌∷◌, length, Option, None, Some, slice_index_or, arith, length-append, length-drop}
use Rattle.std.specs.Option.{option_map_or}
use Rattle.std.proofs.lemmas.List.{length-set, get_or-set_same}
use Rattle.bump_rules.specs.declared.items.ItemId.{ItemId}
use Rattle.bump_rules.specs.declared.bumps.Bump.{Bump}
use Rattle.bump_rules.specs.declared.bumps.Ended.{Ended}
use Rattle.bump_rules.specs.declared.bumps.Ended.TheVariants.{Freed, Deferred}
use Rattle.bump_rules.specs.declared.bumps.Outcome.{Outcome}
use Rattle.bump_rules.specs.declared.bumps.Outcome.TheVariants as outcome
use Rattle.bump_rules.specs.declared.lanes.LaneStage.TheVariants as lane
use Rattle.bump_rules.specs.declared.commands.Answer.TheVariants as answer
use Rattle.bump_rules.specs.Lanes.{bump_of}
use Rattle.model_state.specs.State.{State, WorkerState, new_worker, worker_at, chunk_at, with_chunk, with_worker}
use Rattle.model_state.specs.Events.{waiting, next_bump}
use Rattle.model_state.specs.Worlds.{IsLawful}
use Rattle.model_state.proofs.Ring.{next_in_ring}
use Rattle.bump_core.specs.Commands.{bump_next, bumped_worker, bumped_chunk, bumped_lists, apply_bump, outcome_next, gone_as, entry_next}
use Rattle.bump_trace.specs.OpenStore.{Drained, drained_none, drained_one, drained_both, drained_by, drained_of}
use Rattle.bump_trace.specs.Ready.{AllWorkersRest}
use Rattle.bump_trace.proofs.CommandsAtRest.{resting_at}

-- where a bump is next and none aboard, one waits
some_waits : (x : WorkerState) → x.lane ≡ lane.Empty → (b : Bump) → bump_next x ≡ Some b → 0 < waiting x
some_waits x empty b is =
    by (next_bump x) refl (sym (ap (λ z. bump_next (record x { lane = z })) empty) ∙ is)
  where
    by : (o : Option ItemId) → next_bump x ≡ o → option_map_or (λ l. Some (bump_of (length x.received) l)) o None
        ≡ Some b → 0 < waiting x
    by None next e = absurd (let u : ⊥ = cc in u)
    by (Some l) next e = omega (arith, ap length (next_in_ring x l next), length-drop (length x.received) x.sent)

-- and where none waits, none is next
none_next : (x : WorkerState) → x.lane ≡ lane.Empty → waiting x ≡ 0 → bump_next x ≡ None
none_next x empty none = by (bump_next x) refl
  where
    by : (o : Option Bump) → bump_next x ≡ o → o ≡ None
    by None is = refl
    by (Some b) is = absurd (omega (arith, some_waits x empty b is, none))

-- the lists leave the workers
lists_workers : (s : State) (w : ℕ) (b : Bump) (o : Outcome) (e : Ended) → (bumped_lists s w b o e).workers ≡ s.workers
lists_workers s w b outcome.Moved e = refl
lists_workers s w b outcome.TimeOnly e = refl
lists_workers s w b outcome.Gone Freed = refl
lists_workers s w b outcome.Gone Deferred = refl

-- A bump was applied by a worker whose lane had none aboard.
module _ (s : State) (w now : ℕ) (b : Bump) (within : w < length s.workers) where
  abbrev y : WorkerState
  y = bumped_worker (worker_at s w) b (outcome_next s b)

  kept : (apply_bump s w now b).workers ≡ (with_worker s w y).workers
  kept = lists_workers (with_worker (with_chunk s b.life.chunk (bumped_chunk (chunk_at s b.life.chunk) now
      (outcome_next s b))) w y) w b (outcome_next s b) (gone_as s b.life.chunk)

  there : worker_at (apply_bump s w now b) w ≡ y
  there = ap (λ xs. slice_index_or xs w new_worker) kept ∙ get_or-set_same s.workers w y new_worker within

  within_still : w < length (apply_bump s w now b).workers
  within_still = omega (arith, within, ap length kept, length-set s.workers w y)

  empty_still : (worker_at (apply_bump s w now b) w).lane ≡ lane.Empty
  empty_still = ap (λ (x : WorkerState). x.lane) there

  -- one fewer waits
  one_fewer : (worker_at s w).lane ≡ lane.Empty → bump_next (worker_at s w) ≡ Some b
      → waiting (worker_at (apply_bump s w now b) w) < waiting (worker_at s w)
  one_fewer empty is = omega (
    arith,
    ap waiting there,
    ap length (ap (λ z. (bumped_worker (record (worker_at s w) { lane = z }) b (outcome_next s b)).received) empty),
    length-append (worker_at s w).received (b.life ∷ []),
    some_waits (worker_at s w) empty b is,
  )

-- what a drain with this much room behind the next bump comes to
abbrev drained_next : ℕ → ℕ → ℕ → State → Option Bump → Drained
drained_next now w n s o =
    drained_by (option_map_or (λ b. answer.Bumped (entry_next s b)) o answer.Nothing)
    (option_map_or (apply_bump s w now) o s) w (drained_of now w n)

-- where none waits, nothing is drained
none_drained : (now w n : ℕ) (s : State) → (worker_at s w).lane ≡ lane.Empty → waiting (worker_at s w) ≤ 0
    → drained_of now w (suc n) s ≡ drained_none s
none_drained now w n s empty none =
    ap (drained_next now w n s) (none_next (worker_at s w) empty (omega (arith, none)))

-- Two drains with room for the bumps that wait.
abbrev IsEnough : ℕ → ℕ → ℕ → ℕ → State → Type 0
IsEnough now w n m s = w < length s.workers → (worker_at s w).lane ≡ lane.Empty → waiting (worker_at s w) ≤ n
    → waiting (worker_at s w) ≤ m → drained_of now w n s ≡ drained_of now w m s

-- they go on alike behind the next bump
same_next : (now w n m : ℕ) (s : State) → ((t : State) → IsEnough now w n m t) → w < length s.workers
    → (worker_at s w).lane ≡ lane.Empty → waiting (worker_at s w) ≤ suc n → waiting (worker_at s w) ≤ suc m
    → (o : Option Bump) → bump_next (worker_at s w) ≡ o → drained_next now w n s o ≡ drained_next now w m s o
same_next now w n m s others within empty few more None is = refl
same_next now w n m s others within empty few more (Some b) is = let t = apply_bump s w now b in
    let fewer = one_fewer s w now b within empty is in
    ap (drained_both (drained_one t w (entry_next s b))) (others t (within_still s w now b within)
    (empty_still s w now b within) (omega (arith, fewer, few)) (omega (arith, fewer, more)))

enough : (now w n m : ℕ) (s : State) → IsEnough now w n m s
enough now w zero zero s within empty few more = refl
enough now w zero (suc m) s within empty few more = sym (none_drained now w m s empty few)
enough now w (suc n) zero s within empty few more = none_drained now w n s empty more
enough now w (suc n) (suc m) s within empty few more =
    same_next now w n m s (enough now w n m) within empty few more (bump_next (worker_at s w)) refl

-- at rest a ring has room for the bumps that wait in it
pub waiting_drained : (now w : ℕ) (s : State) → w < length s.workers → AllWorkersRest s → IsLawful s
    → drained_of now w s.capacity s ≡ drained_of now w (waiting (worker_at s w)) s
waiting_drained now w s within rest lawful =
    enough now w s.capacity (waiting (worker_at s w)) s within (resting_at s w rest).empty (omega (
      arith,
      (lawful.workers w within).ring.room,
      length-drop (length (worker_at s w).received) (worker_at s w).sent,
    )) (omega arith)
