-- What a lane does leaves a lawful state lawful.
use Rattle.std.proofs.Common.{◌≡◌, ℕ, suc, ◌<◌, Bool, true, false, not, ◌&&◌, ◌==◌, ◌+◌, nat_lt, eq-eqb, ne_eqb, inl, inr, List, [], ◌∷◌, ◌++◌, map, length, drop, slice_index_or, Some, refl, sym, ap, ◌∙◌, arith, append_assoc, length-append, subst}
use Rattle.std.proofs.lemmas.List.{append-nil, map-append, get_or-set_other, length-set}
use Rattle.std.proofs.lemmas.Bool.{and_parts, ltb-true, not-true, cases_lt}
use native.Mathlib.Decide.{ℕ_discrete}
use Rattle.std.proofs.lemmas.Option.{slice_get-get_or}
use Rattle.bump_rules.specs.declared.places.Segment.TheVariants as segment
use Rattle.bump_rules.specs.declared.items.ItemId.{ItemId}
use Rattle.bump_rules.specs.declared.items.Head.{Head}
use Rattle.bump_rules.specs.declared.bumps.Bump.{Bump}
use Rattle.bump_rules.specs.declared.lanes.LaneStage.{LaneStage}
use Rattle.bump_rules.specs.declared.lanes.LaneStage.TheVariants as lane
use Rattle.bump_rules.specs.declared.bumps.AppliedBump.{AppliedBump}
use Rattle.bump_rules.specs.declared.events.Event.TheVariants as event
use Rattle.bump_rules.specs.Lives.{life, is_same, one_if, count_of}
use Rattle.bump_rules.specs.Totals.{total, how_many}
use Rattle.bump_rules.specs.Entries.{is_move_for, is_unlink_of, is_gone, is_told_moved, is_told_gone, moving, moves_told}
use Rattle.bump_rules.specs.Tables.{is_cold}
use Rattle.model_state.specs.Rings.{in_ring, IsWorker}
use Rattle.bump_rules.specs.Rings.{aboard, bump_applied}
use Rattle.model_state.specs.State.{State, WorkerState, chunk_at, head_at, class_at, worker_at, class_of, with_head, is_under_application, new_worker}
use Rattle.bump_rules.specs.Hands.{is_on}
use Rattle.bump_rules.specs.Lanes.{ending_at, applied_life, bump_of, carried, tried, applied_now, is_empty, cleared_active}
use Rattle.bump_rules.specs.Heads.{cleared_head, moved_head}
use Rattle.model_state.specs.Events.{with_time, next_bump, ending, is_enabled, after, take_bump, with_lane, clear_for, alight, move_for}
use Rattle.model_state.specs.Worlds.{in_lane_of, bumps_of, WaitsToMove, is_of_class, WasUnlinked, IsLawful, place, references, first_hits_of}
use Rattle.model_state.proofs.Ring.{lane_further, next_in_ring, numbered_append}
use Rattle.model_state.proofs.LawfulStates.{linked_in_range, same_lives, aboard_in_range, aboard_current, aboard_referred, applied_aboard, waiting_linked}
use Rattle.bump_core.proofs.worlds.Frames.{hits_in, worker_here, each_worker, worker_lawful, both_marked, both_unreferred, alone_after, alone_kept, tells_further, chunk_here, time_lawful}
use Rattle.bump_core.proofs.worlds.Unlinked.{referred_unlinked}
use Rattle.bump_rules.proofs.Updates.{total_kept}
use Rattle.bump_rules.proofs.Counted.{how_many_push}
use Rattle.bump_rules.proofs.Endings.{told_by_ending, gone_by_ending}
use Rattle.bump_rules.proofs.ToldMoves.{tests_turned}
use Rattle.model_state.proofs.Enabled.{some_and_parts, some_from, worker_there, lawful_by_some, empty_from, carrying_from, tried_from, cold_from, applied_from, none_applies, applied_by_ending, move_for_from, cleared_from}
use Rattle.bump_rules.specs.declared.history.Change.{Change}
use Rattle.bump_rules.specs.declared.history.Change.TheVariants as change
use Rattle.bump_rules.specs.declared.history.Cause.TheVariants.{Bump as BumpOf}
use Rattle.model_state.proofs.Tiles.{class_within, class_owns}
use Rattle.bump_rules.proofs.Laws.{bit_some, moved}
use Rattle.bump_core.proofs.events.Moves.{WorkersFit, counted_changed, change_among}
use Rattle.bump_rules.specs.Lawful.{bit}

-- a lane with no bump aboard takes the next one from the ring
pub take_bump_lawful : (s : State) (w : ℕ) (l : ItemId) → IsLawful s → w < length s.workers → (worker_at s w).lane
    ≡ lane.Empty → next_bump (worker_at s w) ≡ Some l → IsLawful (take_bump s w l)
take_bump_lawful s w l o inside empty next = worker_lawful s w y o inside
    (λ m. omega (arith, ap (in_lane_of m) empty, ap (count_of m) was_ring, ap (count_of m) ring))
    (λ m. refl)
    (λ m. omega arith)
    (record {
      ring = record {
        prefix = was.ring.prefix ∙ ap (λ xs. (worker_at s w).received ++ xs) was_ring
            ∙ sym (append_assoc (worker_at s w).received (l ∷ []) rest)
            ∙ ap (λ xs. ((worker_at s w).received ++ l ∷ []) ++ xs) (sym ring);
        room = omega (arith, was.ring.room, ap length was_ring, ap length ring);
      };
      applied = ap (λ bs. bs ++ bump_of (length (worker_at s w).received) l ∷ [])
          (sym (append-nil (map bump_applied (worker_at s w).applied))
          ∙ ap (λ x. map bump_applied (worker_at s w).applied ++ aboard x) (sym empty) ∙ was.applied)
          ∙ sym (numbered_append 0 (worker_at s w).received (l ∷ []) (length (worker_at s w).received) (omega arith));
      accounts = was.accounts;
    })
    (λ v a b inside_too ne of_v of_y same. let u : ⊥ = cc in u)
    tt
    (tells_further s w lane.Empty (lane.Carrying (bump_of (length (worker_at s w).received) l)) o inside empty
    (λ test n. refl))
  where
    y : WorkerState
    y = record (worker_at s w) {
      received = (worker_at s w).received ++ l ∷ [];
      lane = lane.Carrying
          (bump_of (length (worker_at s w).received) l);
    }

    was : IsWorker s.capacity (worker_at s w)
    was = o.workers w inside

    rest : List ItemId
    rest = drop (suc (length (worker_at s w).received)) (worker_at s w).sent

    was_ring : in_ring (worker_at s w) ≡ l ∷ rest
    was_ring = next_in_ring (worker_at s w) l next

    ring : in_ring y ≡ rest
    ring = ap (λ n. drop n (worker_at s w).sent) (let more : length ((worker_at s w).received ++ l ∷ [])
        ≡ suc (length (worker_at s w).received) = omega (arith, length-append (worker_at s w).received (l ∷ [])) in
        more)

-- where no lane applies a bump of its class the lane looks at the item of its bump
pub try_lawful : (s : State) (w : ℕ) (b : Bump) → IsLawful s → w < length s.workers → (worker_at s w).lane
    ≡ lane.Carrying b → is_under_application s (class_of s b.life.chunk) ≡ false
    → IsLawful (with_lane s w (lane.Tried b))
try_lawful s w b o inside is rest = worker_lawful s w (record (worker_at s w) { lane = lane.Tried b }) o inside
    (λ m. omega (arith, ap (in_lane_of m) is))
    (λ m. refl)
    (λ m. omega arith)
    (lane_further s.capacity (worker_at s w) (lane.Tried b) (o.workers w inside) (sym (ap aboard is)))
    (λ v l m inside_too ne of_v of_y same. none_applies s (class_of s b.life.chunk) v l rest inside_too of_v (same
    ∙ ap (λ z. class_of s z.chunk) (let back : m ≡ b.life = cc in back)))
    tt
    (tells_further s w (lane.Carrying b) (lane.Tried b) o inside is (λ test n. refl))

-- an item of COLD waits to be moved or not
waits_cleared : (s : State) (b : Bump) (found : Bool) → (head_at s b.life.chunk).linked ≡ true
    → (head_at s b.life.chunk).segment ≡ segment.Cold → WaitsToMove s (lane.Cleared b found)
waits_cleared s b true on cold = (on, cold)
waits_cleared s b false on cold = tt

-- the lane clears ACTIVE of an item that it found linked in COLD
pub clear_for_lawful : (s : State) (w : ℕ) (b : Bump) → IsLawful s → w < length s.workers → (worker_at s w).lane
    ≡ lane.Tried b → (head_at s b.life.chunk).linked ≡ true → (head_at s b.life.chunk).segment ≡ segment.Cold
    → IsLawful (clear_for s w b)
clear_for_lawful s w b o inside is on cold = both_marked s b.life.chunk false w y o within inside (omega arith)
    (λ m. omega (arith, ap (in_lane_of m) is))
    (λ m. refl)
    (λ m. omega (arith, o.hands m))
    (lane_further s.capacity (worker_at s w) (lane.Cleared b (head_at s b.life.chunk).active) (o.workers w inside)
    (sym (ap aboard is)))
    (alone_kept s w y inside o (sym (ap applied_life is)))
    (waits_cleared (with_head s b.life.chunk h) b (head_at s b.life.chunk).active (ap (λ z. z.head.linked) here
    ∙ on) (ap (λ z. z.head.segment) here ∙ cold))
    (tells_further s w (lane.Tried b) (lane.Cleared b (head_at s b.life.chunk).active) o inside is (λ test n. refl))
  where
    within : b.life.chunk < length s.chunks
    within = linked_in_range s o b.life.chunk on

    h : Head
    h = cleared_head (head_at s b.life.chunk)

    y : WorkerState
    y = record (worker_at s w) { lane = lane.Cleared b (head_at s b.life.chunk).active }

    here : chunk_at (with_head s b.life.chunk h) b.life.chunk ≡ record (chunk_at s b.life.chunk) { head = h }
    here = chunk_here s b.life.chunk (record (chunk_at s b.life.chunk) { head = h }) within

-- the bump that a lane applies is the one aboard
pub applied_alone_aboard : (x : LaneStage) (b : Bump) → applied_now x ≡ Some b → aboard x ≡ b ∷ []
applied_alone_aboard lane.Empty b is = absurd (let u : ⊥ = cc in u)
applied_alone_aboard (lane.Carrying a) b is = absurd (let u : ⊥ = cc in u)
applied_alone_aboard (lane.Tried a) b is = ap (λ (z : Bump). z ∷ []) (let same : a ≡ b = cc in same)
applied_alone_aboard (lane.Cleared a found) b is = ap (λ (z : Bump). z ∷ []) (let same : a ≡ b = cc in same)
applied_alone_aboard (lane.Moved a) b is = ap (λ (z : Bump). z ∷ []) (let same : a ≡ b = cc in same)

-- and its life is the one that counts
pub applied_counts_for : (x : LaneStage) (b : Bump) → applied_now x ≡ Some b → (m : ItemId) → in_lane_of m x
    ≡ one_if m b.life
applied_counts_for x b is m =
    omega (arith, ap (λ bs. total (λ (z : Bump). one_if m z.life) bs) (applied_alone_aboard x b is))

-- the lane gives the reference of the bump that it applied back
pub alight_lawful : (s : State) (w : ℕ) (a : AppliedBump) → IsLawful s → w < length s.workers → ending s w ≡ Some a
    → IsLawful (alight s w a)
alight_lawful s w a o inside ends = both_unreferred s a.life w (record (worker_at s w) {
  lane = lane.Empty;
  applied = (worker_at s w).applied ++ a ∷ [];
}) o
    (aboard_in_range s o w a.life inside counts) inside (aboard_current s o w a.life inside counts)
    (λ m. omega (arith, applied_counts_for (worker_at s w).lane (bump_applied a) is m))
    (λ m. refl)
    (λ m. omega (arith, o.hands m))
    (record {
      ring = was.ring;
      applied = append-nil (map bump_applied ((worker_at s w).applied ++ a ∷ []))
          ∙ map-append bump_applied (worker_at s w).applied (a ∷ [])
          ∙ ap (λ bs. map bump_applied (worker_at s w).applied ++ bs) (sym (applied_alone_aboard (worker_at s w).lane
          (bump_applied a) is)) ∙ was.applied;
      accounts = was.accounts;
    })
    (λ v l m inside_too ne of_v of_y same. let u : ⊥ = cc in u)
    tt (
      (λ test n. omega (
        arith,
        how_many_push (is_told_moved test n) (worker_at s w).applied a,
        told_by_ending (head_at s) (worker_at s w).lane a ends test n,
      )),
      unlinked,
    )
  where
    is : applied_now (worker_at s w).lane ≡ Some (bump_applied a)
    is = applied_by_ending (head_at s) (worker_at s w).lane a ends

    counts : 0 < in_lane_of a.life (worker_at s w).lane
    counts = applied_aboard s o w a.life (applied_from (worker_at s w).lane (bump_applied a) is)

    was : IsWorker s.capacity (worker_at s w)
    was = o.workers w inside

    unlinked : (l : ItemId) → 0 < how_many (is_told_gone l) ((worker_at s w).applied ++ a ∷ [])
        → 0 < how_many (is_unlink_of l) (class_at s (class_of s l.chunk)).history
    unlinked l some = elim (cases_lt 0 (how_many (is_told_gone l) (worker_at s w).applied)) [
      | inl before ↦ o.gone w inside l before
      | inr none ↦ let both = and_parts (is_gone a.outcome) (is_same l a.life) (bit_some (is_told_gone l a)
          (omega (arith, some, how_many_push (is_told_gone l) (worker_at s w).applied a))) in
          subst (λ (m : ItemId). 0 < how_many (is_unlink_of m) (class_at s (class_of s m.chunk)).history)
          (sym (same_lives l a.life both.1))
          (referred_unlinked s o a.life.chunk a.life.generation (aboard_referred s o w a.life inside counts)
          (gone_by_ending (head_at s) (worker_at s w).lane a ends both.0))
    ]

-- The events.

-- a lane takes the next bump
pub after_take_bump : (s : State) (w : ℕ) → IsLawful s → is_enabled s (event.TakeBump w) ≡ true
    → IsLawful (after s (event.TakeBump w))
after_take_bump s w o enabled = let more = and_parts (is_empty (worker_at s w).lane)
    (nat_lt (length (worker_at s w).received) (length (worker_at s w).sent)) enabled in
    let l : ItemId = slice_index_or (worker_at s w).sent (length (worker_at s w).received) (life 0 0) in
    let next : next_bump (worker_at s w) ≡ Some l = slice_get-get_or (worker_at s w).sent
    (length (worker_at s w).received) (life 0 0) (ltb-true (length (worker_at s w).received)
    (length (worker_at s w).sent) more.1) in
    lawful_by_some (take_bump s w) s (next_bump (worker_at s w)) l next
    (take_bump_lawful s w l o (worker_there s w next_bump l refl next) (empty_from (worker_at s w).lane more.0) next)

-- the lane looks at the item of its bump
pub after_try : (s : State) (w : ℕ) → IsLawful s → is_enabled s (event.Try w) ≡ true → IsLawful (after s (event.Try w))
after_try s w o enabled = let found = some_and_parts (λ (b : Bump). not (is_under_application s
    (class_of s b.life.chunk))) (carried (worker_at s w).lane) enabled in
    lawful_by_some (λ b. with_lane s w (lane.Tried b)) s (carried (worker_at s w).lane) found.0 found.1
    (try_lawful s w found.0 o (worker_there s w (λ x. carried x.lane) found.0 refl found.1) (carrying_from
    (worker_at s w).lane found.0 found.1) (not-true (is_under_application s
    (class_of s found.0.life.chunk)) found.2))

-- the lane stores the time
pub after_bump_time : (s : State) (w t : ℕ) → IsLawful s → is_enabled s (event.BumpTime w t) ≡ true
    → IsLawful (after s (event.BumpTime w t))
after_bump_time s w t o enabled = let found = some_and_parts (λ (b : Bump). (head_at s b.life.chunk).linked)
    (applied_now (worker_at s w).lane) enabled in
    lawful_by_some (λ b. with_time s b.life.chunk t) s (applied_now (worker_at s w).lane) found.0 found.1
    (time_lawful s found.0.life.chunk t o)

-- the lane clears ACTIVE
pub after_clear_for : (s : State) (w : ℕ) → IsLawful s → is_enabled s (event.ClearFor w) ≡ true
    → IsLawful (after s (event.ClearFor w))
after_clear_for s w o enabled = let found = some_and_parts (λ (b : Bump). (head_at s b.life.chunk).linked && is_cold
    (head_at s b.life.chunk).segment) (tried (worker_at s w).lane) enabled in
    let head_says = and_parts (head_at s found.0.life.chunk).linked
    (is_cold (head_at s found.0.life.chunk).segment) found.2 in
    lawful_by_some (clear_for s w) s (tried (worker_at s w).lane) found.0 found.1
    (clear_for_lawful s w found.0 o (worker_there s w (λ x. tried x.lane) found.0 refl found.1)
    (tried_from (worker_at s w).lane found.0 found.1) head_says.0
    (cold_from (head_at s found.0.life.chunk).segment head_says.1))

-- the lane gives the bump's reference back
pub after_alight : (s : State) (w : ℕ) → IsLawful s → is_enabled s (event.Alight w) ≡ true
    → IsLawful (after s (event.Alight w))
after_alight s w o enabled = let found = some_from (ending s w) enabled in
    lawful_by_some (alight s w) s (ending s w) found.0 found.1
    (alight_lawful s w found.0 o (worker_there s w (λ x. ending_at (head_at s) x.lane) found.0 refl found.1) found.1)

-- a lane that moved its item does not wait to move it
two_lanes : (s : State) (v w : ℕ) (a b : Bump) → v ≡ w → (worker_at s v).lane ≡ lane.Cleared a true
    → (worker_at s w).lane ≡ lane.Moved b → ⊥
two_lanes s v w a b same cleared moved = let both : lane.Cleared a true ≡ lane.Moved b = sym cleared
    ∙ (ap (λ (u : ℕ). (worker_at s u).lane) same ∙ moved) in cc

-- what the lanes tell of once more: the move that a lane made
moved_told : (s : State) (w : ℕ) (b : Bump) → w < length s.workers → (worker_at s w).lane ≡ lane.Cleared b true
    → (test : ItemId → Bool) (v n : ℕ)
    → moves_told test n (worker_at (with_lane s w (lane.Moved b)) v).applied
    (worker_at (with_lane s w (lane.Moved b)) v).lane
    ≡ moves_told test n (worker_at s v).applied (worker_at s v).lane + bit
    ((w == v) && ((b.number == n) && test b.life))
moved_told s w b within is test v n = by (ℕ_discrete v w)
  where
    y : WorkerState
    y = record (worker_at s w) { lane = lane.Moved b }

    told : WorkerState → ℕ
    told x = moves_told test n x.applied x.lane

    by : Dec (v ≡ w) → told (worker_at (with_lane s w (lane.Moved b)) v)
        ≡ told (worker_at s v) + bit ((w == v) && ((b.number == n) && test b.life))
    by (yes same) = omega (
      arith,
      ap (λ (u : ℕ). told (worker_at (with_lane s w (lane.Moved b)) u)) same,
      ap told (worker_here s w y within),
      ap (λ (u : ℕ). told (worker_at s u)) same,
      ap (moving test n) is,
      ap (λ p. bit (p && ((b.number == n) && test b.life))) (eq-eqb w v (sym same)),
    )
    by (no differs) = omega (
      arith,
      ap told (get_or-set_other s.workers w v y new_worker differs),
      ap (λ p. bit (p && ((b.number == n) && test b.life))) (ne_eqb w v (λ e. differs (sym e))),
    )

-- a move for a bump keeps a World lawful
pub after_move_for : (s : State) → IsLawful s → (w : ℕ) → is_enabled s (event.MoveFor w) ≡ true
    → IsLawful (after s (event.MoveFor w))
after_move_for s o w enabled = let may = move_for_from s w enabled in
    lawful_by_some (move_for s w) s (cleared_active (worker_at s w).lane) may.0 may.2 (goes may.0 may.1
    (cleared_from (worker_at s w).lane may.0 may.2))
  where
    fits : (b : Bump) → w < length s.workers → (worker_at s w).lane ≡ lane.Cleared b true
        → WorkersFit s b.life.chunk (with_lane s w (lane.Moved b)).workers
    fits b within is = let y : WorkerState = record (worker_at s w) { lane = lane.Moved b } in
        let t = with_lane s w (lane.Moved b) in
        let here : (worker_at t w).lane ≡ lane.Moved b = ap (λ x. x.lane) (worker_here s w y within) in
        let w_in : w < length t.workers = omega (arith, within, length-set s.workers w y) in
        let alone = alone_after s w y within o (alone_kept s w y within o (sym (ap applied_life is))) in
        record {
          bumps = λ l. total_kept (bumps_of l) s.workers w y new_worker within (omega (arith, ap (in_lane_of l) is));
          hits = λ l. total_kept (hits_in l) s.workers w y new_worker within refl;
          hands = λ l. omega (arith, total_kept (λ x. is_on l x.hand) s.workers w y new_worker within refl);
          workers = each_worker s w y within (IsWorker s.capacity) (lane_further s.capacity (worker_at s w)
              (lane.Moved b) (o.workers w within) (sym (ap aboard is))) o.workers;
          alone = alone;
          waits = each_worker s w y within (λ x. WaitsToMove s x.lane) tt o.waits;
          free = λ v v_in a cleared same. two_lanes t v w a b (alone v w a.life b.life v_in w_in
              (ap applied_life cleared) (ap applied_life here) (ap (class_of s) same)) cleared here;
          gone = each_worker s w y within (WasUnlinked s) (o.gone w within) o.gone;
        }

    goes : (b : Bump) → w < length s.workers → (worker_at s w).lane ≡ lane.Cleared b true → IsLawful (move_for s w b)
    goes b within is =
        let on = (waiting_linked s o w b within is).0 in
        let c = b.life.chunk in
        let in_range = linked_in_range s o c on in
        let e : Change = change.Moved b.life segment.Cold segment.Warm (BumpOf w b.number) in
        let k = class_of s c in
        change_among s o c (moved_head segment.Warm (head_at s c)) k e (class_within s o.tiles c in_range)
        (class_owns s o.tiles c in_range) refl
        (λ g. refl)
        (with_lane s w (lane.Moved b)).workers (fits b within is)
        (moved s.refs_limit (head_at s c) (place s c) (references s c) (first_hits_of s c) (o.chunks c) segment.Warm on)
        (aboard_current s o w b.life within (applied_aboard s o w b.life (ap applied_life is)))
        refl
        (λ j v n test. omega (
          arith,
          o.moves j v n test,
          counted_changed s o c (moved_head segment.Warm (head_at s c)) k e (class_within s o.tiles c in_range)
              (class_owns s o.tiles c in_range) refl (is_move_for test v n) j,
          moved_told s w b within is (is_of_class s j test) v n,
          ap bit (tests_turned (k == j) (test b.life) (w == v) (b.number == n)),
        ))
