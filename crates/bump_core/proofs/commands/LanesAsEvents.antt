-- Applying a bump is its events.
use Rattle.std.specs.Prelude.{is_some}
use Rattle.std.proofs.Common.{rules, ◌≡◌, ℕ, ◌<◌, Bool, true, false, not, ◌&&◌, List, [], ◌∷◌, ◌++◌, length, slice_set, Option, Some, None, if◌then◌else◌, refl, sym, ap, ◌∙◌, subst, arith}
use Rattle.std.proofs.lemmas.Bool.{and_from, ltb-true, lt-ltb}
use Rattle.std.proofs.lemmas.Option.{slice_get_within}
use Rattle.std.specs.Option.{option_map_or}
use Rattle.std.specs.Prelude.{option_map}
use Rattle.std.proofs.lemmas.List.{length-set, set-get_or}
use Rattle.bump_rules.specs.declared.places.Segment.TheVariants as segment
use Rattle.bump_rules.specs.declared.items.ItemId.{ItemId}
use Rattle.bump_rules.specs.declared.items.Head.{Head}
use Rattle.model_state.specs.declared.chunks.Chunk.{Chunk}
use Rattle.bump_rules.specs.declared.history.Cause.TheVariants.{Bump as BumpOf}
use Rattle.bump_rules.specs.declared.history.Change.{Change}
use Rattle.bump_rules.specs.declared.history.Change.TheVariants as change
use Rattle.bump_rules.specs.declared.bumps.Bump.{Bump}
use Rattle.bump_rules.specs.declared.lanes.LaneStage.{LaneStage}
use Rattle.bump_rules.specs.declared.lanes.LaneStage.TheVariants as lane
use Rattle.bump_rules.specs.declared.bumps.AppliedBump.{AppliedBump}
use Rattle.bump_rules.specs.declared.bumps.Outcome.{Outcome}
use Rattle.bump_rules.specs.declared.bumps.Outcome.TheVariants as outcome
use Rattle.bump_rules.specs.declared.events.Event.{Event}
use Rattle.bump_rules.specs.declared.events.Event.TheVariants as event
use Rattle.bump_rules.specs.declared.commands.Command.TheVariants as command
use Rattle.bump_rules.specs.Tables.{is_cold, ended_of}
use Rattle.model_state.specs.State.{State, ClassState, WorkerState, chunk_at, head_at, class_at, worker_at, no_chunk, class_with_change, with_worker, with_change, class_from, class_of, some_and, applies_in, is_under_application}
use Rattle.model_state.specs.Worlds.{references, place, IsLawful}
use Rattle.bump_rules.specs.Heads.{one_fewer, cleared_head, moved_head}
use Rattle.model_state.specs.Events.{is_enabled, after, next_bump, ending, with_time, take_bump, with_lane, clear_for, move_for, alight}
use Rattle.bump_rules.specs.Lanes.{carried, tried, applied_now, cleared_active, is_empty, outcome_tried, ending_at, bump_of, applied_bump}
use Rattle.bump_core.specs.Runs.{run_of}
use Rattle.bump_core.specs.Commands.{is_allowed, events_of, command_after, bump_next, outcome_next, gone_as, bumped_chunk, bumped_worker, bumped_lists, with_chunk_freed, look_of, apply_bump, take_events, apply_events}
use Rattle.bump_rules.proofs.Laws.{dying_where_unlinked}
use Rattle.model_state.proofs.LawfulStates.{referred_in_range, referred_used, referred_current}
use Rattle.bump_core.proofs.commands.NextBumps.{next_referred}
use Rattle.bump_core.proofs.worlds.StaysLawful.{lawful_after, run_lawful}
use Rattle.bump_core.proofs.events.Runs.{run_step}
use Rattle.bump_rules.proofs.Updates.{none_written}
use Rattle.bump_core.proofs.commands.EndsAsEvents.{look_made}
use Rattle.bump_core.proofs.commands.ChangedState.{at, at_start, chunk_reads, worker_reads, on_chunk, on_worker, on_both}

-- The steps of a bump, on its chunk, its worker and the classes.
module _ (s : State) (b : Bump) (w : ℕ) (c_in : b.life.chunk < length s.chunks) (w_in : w < length s.workers)
    (ks : List ClassState) (x : Chunk) (y : WorkerState) (es : List Event) where
  -- the state with the classes, the chunk and the worker
  abbrev t : State
  t = at s b.life.chunk w ks x y

  -- the worker's lane is read
  lane_at : (worker_at t w).lane ≡ y.lane
  lane_at = ap (λ (z : WorkerState). z.lane) (worker_reads s b.life.chunk w c_in w_in ks x y)

  -- the lane looks at the head
  try_step : y.lane ≡ lane.Carrying b → is_under_application t (class_of t b.life.chunk) ≡ false
      → run_of t (event.Try w ∷ es) ≡ run_of (at s b.life.chunk w ks x (record y { lane = lane.Tried b })) es
  try_step is rest =
      let bump : carried (worker_at t w).lane ≡ Some b = ap carried (lane_at ∙ is) in
      run_step t _ (event.Try w) es
      (ap (some_and (λ (a : Bump). not (is_under_application t (class_of t a.life.chunk)))) bump ∙ ap not rest)
      (ap (λ m. option_map_or (λ (a : Bump). with_lane t w (lane.Tried a)) m t) bump
      ∙ on_worker s b.life.chunk w c_in w_in ks x y (λ z. record z { lane = lane.Tried b }))

  -- the lane stores the time
  time_step : (now : ℕ) → applied_now y.lane ≡ Some b → x.head.linked ≡ true
      → run_of t (event.BumpTime w now ∷ es) ≡ run_of (at s b.life.chunk w ks (record x { time = now }) y) es
  time_step now is on =
      let bump : applied_now (worker_at t w).lane ≡ Some b = ap applied_now lane_at ∙ is in
      run_step t _ (event.BumpTime w now) es
      (ap (some_and (λ (a : Bump). (head_at t a.life.chunk).linked)) bump
      ∙ (ap (λ (z : Chunk). z.head.linked) (chunk_reads s b.life.chunk w c_in w_in ks x y) ∙ on))
      (ap (λ m. option_map_or (λ (a : Bump). with_time t a.life.chunk now) m t) bump
      ∙ on_chunk s b.life.chunk w c_in w_in ks x y (λ z. record z { time = now }))

  -- the lane clears ACTIVE
  clear_step : y.lane ≡ lane.Tried b → x.head.linked ≡ true → is_cold x.head.segment ≡ true
      → run_of t (event.ClearFor w ∷ es) ≡ run_of (at s b.life.chunk w ks (record x { head = cleared_head x.head })
      (record y { lane = lane.Cleared b x.head.active })) es
  clear_step is on cold =
      let bump : tried (worker_at t w).lane ≡ Some b = ap tried (lane_at ∙ is) in
      run_step t _ (event.ClearFor w) es
      (ap (some_and (λ (a : Bump). (head_at t a.life.chunk).linked && is_cold (head_at t a.life.chunk).segment)) bump
      ∙ (ap (λ (z : Chunk). z.head.linked && is_cold z.head.segment) (chunk_reads s b.life.chunk w c_in w_in ks x y)
      ∙ and_from _ _ on cold))
      (ap (λ m. option_map_or (clear_for t w) m t) bump
      ∙ on_both s b.life.chunk w c_in w_in ks x y (λ z. record z { head = cleared_head z.head }) (λ a z. record z {
        lane = lane.Cleared b a.head.active;
      }))

  -- the class's entry of the move
  abbrev entry : Change
  entry = change.Moved b.life segment.Cold segment.Warm (BumpOf w b.number)

  -- the lane moves the item
  move_step : y.lane ≡ lane.Cleared b true
      → run_of t (event.MoveFor w ∷ es) ≡ run_of (with_change (at s b.life.chunk w ks (record x {
        head = moved_head segment.Warm x.head;
      }) (record y { lane = lane.Moved b }))
      (class_from ks b.life.chunk) entry) es
  move_step is =
      let bump : cleared_active (worker_at t w).lane ≡ Some b = ap cleared_active (lane_at ∙ is) in
      run_step t _ (event.MoveFor w) es
      (ap (λ (o : Option Bump). is_some o) bump)
      (ap (λ m. option_map_or (move_for t w) m t) bump
      ∙ ap (λ u. with_change u (class_from ks b.life.chunk) entry) (on_both s b.life.chunk w c_in w_in ks x y
      (λ z. record z { head = moved_head segment.Warm z.head }) (λ a z. record z { lane = lane.Moved b })))

  -- the lane gives the reference back
  alight_step : (out : Outcome) → ((heads : ℕ → Head) → heads b.life.chunk ≡ x.head → ending_at heads y.lane
      ≡ Some (applied_bump b out))
      → run_of t (event.Alight w ∷ es) ≡ run_of (at s b.life.chunk w ks (record x { head = one_fewer x.head })
      (record y { lane = lane.Empty; applied = y.applied ++ applied_bump b out ∷ [] })) es
  alight_step out ends =
      let comes : ending t w ≡ Some (applied_bump b out) = ap (ending_at (head_at t)) lane_at
      ∙ ends (head_at t) (ap (λ (z : Chunk). z.head) (chunk_reads s b.life.chunk w c_in w_in ks x y)) in
      run_step t _ (event.Alight w) es
      (ap (λ (o : Option AppliedBump). is_some o) comes)
      (ap (λ m. option_map_or (alight t w) m t) comes
      ∙ on_both s b.life.chunk w c_in w_in ks x y (λ z. record z { head = one_fewer z.head }) (λ a z. record z {
        lane = lane.Empty;
        applied = z.applied ++ applied_bump b out ∷ [];
      }))

-- A bump that a lane carries, while no lane applies one of its class.
module _ (s : State) (b : Bump) (w now : ℕ) (c_in : b.life.chunk < length s.chunks) (w_in : w < length s.workers)
    (rest : is_under_application s (class_of s b.life.chunk) ≡ false) (received : List ItemId) where
  -- the chunk's number
  abbrev c : ℕ
  c = b.life.chunk

  -- its head
  abbrev h : Head
  h = head_at s c

  -- the chunk
  abbrev x : Chunk
  x = chunk_at s c

  -- the worker when the lane is so far
  abbrev y : LaneStage → WorkerState
  y l = record (worker_at s w) { received = received; lane = l }

  -- the worker when the bump is applied
  abbrev z : Outcome → WorkerState
  z o = record (y lane.Empty) { applied = (worker_at s w).applied ++ applied_bump b o ∷ [] }

  -- the state when the lane took the bump
  abbrev taken : State
  taken = at s c w s.classes x (y (lane.Carrying b))

  -- the lane looks at the head
  looked : (es : List Event) → run_of taken (event.Try w ∷ es) ≡ run_of (at s c w s.classes x (y (lane.Tried b))) es
  looked es = try_step s b w c_in w_in s.classes x (y (lane.Carrying b)) es refl
      (none_written (λ (v : WorkerState). applies_in s (class_of s c) v.lane) s.workers w
      (y (lane.Carrying b)) rest refl)

  -- the state when a bump of an item that was gone is applied
  abbrev left : State
  left = at s c w s.classes (bumped_chunk x now outcome.Gone) (z outcome.Gone)

  -- of an item that was gone the reference is given back
  let_go : h.linked ≡ false → (es : List Event) → run_of taken (event.Try w ∷ event.Alight w ∷ es) ≡ run_of left es
  let_go off es = looked (event.Alight w ∷ es)
      ∙ alight_step s b w c_in w_in s.classes x (y (lane.Tried b)) es outcome.Gone
      (λ heads same. ap (λ (f : Head). option_map (applied_bump b) (outcome_tried f)) same
      ∙ ap (option_map (applied_bump b)) (ap (λ i. if not i then Some outcome.Gone else
      (if is_cold h.segment then None else Some outcome.TimeOnly)) off))

  -- and its head is looked at: it was DYING, since its bump had a reference
  gone : IsLawful s → IsLawful taken → 0 < references s c b.life.generation → h.linked ≡ false
      → run_of taken (event.Try w ∷ event.Alight w ∷ look_of c (ended_of (one_fewer h)) ∷ [])
      ≡ Some (with_chunk_freed left b.life (gone_as s c))
  gone o lawful some off =
      let read = chunk_reads s c w c_in w_in s.classes (bumped_chunk x now outcome.Gone) (z outcome.Gone) in
      let_go off (look_of c (ended_of (one_fewer h)) ∷ [])
      ∙ look_made left (run_lawful taken (event.Try w ∷ event.Alight w ∷ []) left lawful (let_go off [])) c
      (omega (arith, c_in, length-set s.chunks c (bumped_chunk x now outcome.Gone)))
      (dying_where_unlinked h (place s c) (o.chunks c).shown (referred_used s o c b.life.generation some) off)
      (none_written (λ (v : WorkerState). applies_in s (class_of s c) v.lane) s.workers w (z outcome.Gone) rest refl)
      b.life (ended_of (one_fewer h)) refl
      (ap (λ (a : Chunk). a.head.generation) read ∙ sym (referred_current s o c b.life.generation some))
      (ap (λ (a : Chunk). ended_of a.head) read)

  -- of a linked item the lane stores the time
  begun : h.linked ≡ true → (es : List Event) → run_of taken (event.Try w ∷ event.BumpTime w now ∷ es)
      ≡ run_of (at s c w s.classes (record x { time = now }) (y (lane.Tried b))) es
  begun on es = looked (event.BumpTime w now ∷ es)
      ∙ time_step s b w c_in w_in s.classes x (y (lane.Tried b)) es now refl on

  -- an item in HOT, WARM or TEMP gets the time alone
  timed : h.linked ≡ true → is_cold h.segment ≡ false
      → run_of taken (event.Try w ∷ event.BumpTime w now ∷ event.Alight w ∷ [])
      ≡ Some (at s c w s.classes (bumped_chunk x now outcome.TimeOnly) (z outcome.TimeOnly))
  timed on warm = begun on (event.Alight w ∷ [])
      ∙ alight_step s b w c_in w_in s.classes (record x { time = now }) (y (lane.Tried b)) [] outcome.TimeOnly
      (λ heads same. ap (λ (f : Head). option_map (applied_bump b) (outcome_tried f)) same
      ∙ ap (option_map (applied_bump b)) (ap (λ i. if not i then Some outcome.Gone else
      (if is_cold h.segment then None else Some outcome.TimeOnly)) on
      ∙ ap (λ d. if d then None else Some outcome.TimeOnly) warm))

  -- so does one in COLD whose ACTIVE is clear
  unmarked : h.linked ≡ true → is_cold h.segment ≡ true → h.active ≡ false
      → run_of taken (event.Try w ∷ event.BumpTime w now ∷ event.ClearFor w ∷ event.Alight w ∷ [])
      ≡ Some (at s c w s.classes (bumped_chunk x now outcome.TimeOnly) (z outcome.TimeOnly))
  unmarked on cold clear = begun on (event.ClearFor w ∷ event.Alight w ∷ [])
      ∙ (clear_step s b w c_in w_in s.classes (record x { time = now }) (y (lane.Tried b))
      (event.Alight w ∷ []) refl on cold
      ∙ (alight_step s b w c_in w_in s.classes (record x { head = cleared_head h; time = now })
      (y (lane.Cleared b h.active)) [] outcome.TimeOnly (λ heads same. ap (λ d. ending_at heads
      (lane.Cleared b d)) clear)
      ∙ ap (λ (a : Bool). Some (at s c w s.classes (record x {
        head = record (one_fewer h) {
          active = a;
        };
        time = now;
      }) (z outcome.TimeOnly))) (sym clear)))

  -- one whose ACTIVE is set is moved
  moved : h.linked ≡ true → is_cold h.segment ≡ true → h.active ≡ true
      → run_of taken (event.Try w ∷ event.BumpTime w now ∷ event.ClearFor w ∷ event.MoveFor w ∷ event.Alight w ∷ [])
      ≡ Some (with_change (at s c w s.classes (bumped_chunk x now outcome.Moved) (z outcome.Moved)) (class_of s c)
      (change.Moved b.life segment.Cold segment.Warm (BumpOf w b.number)))
  moved on cold set = begun on (event.ClearFor w ∷ event.MoveFor w ∷ event.Alight w ∷ [])
      ∙ (clear_step s b w c_in w_in s.classes (record x { time = now }) (y (lane.Tried b))
      (event.MoveFor w ∷ event.Alight w ∷ []) refl on cold
      ∙ (move_step s b w c_in w_in s.classes (record x { head = cleared_head h; time = now })
      (y (lane.Cleared b h.active)) (event.Alight w ∷ []) (ap (lane.Cleared b) set)
      ∙ alight_step s b w c_in w_in (slice_set s.classes (class_of s c) (class_with_change (class_at s (class_of s c))
      (change.Moved b.life segment.Cold segment.Warm (BumpOf w b.number))))
      (record x { head = moved_head segment.Warm (cleared_head h); time = now }) (y (lane.Moved b)) [] outcome.Moved
      (λ heads same. refl)))

  -- the outcome, by LINKED, by whether the segment bits say COLD, and by ACTIVE
  abbrev out : Bool → Bool → Bool → Outcome
  out i d a = if not i then outcome.Gone else (if d && a then outcome.Moved else outcome.TimeOnly)

  -- applying the bump is what the update table says
  applied_made : IsLawful s → IsLawful taken → 0 < references s c b.life.generation
      → run_of taken (apply_events h w now c)
      ≡ Some (bumped_lists (at s c w s.classes (bumped_chunk x now (outcome_next s b)) (z (outcome_next s b))) w b
      (outcome_next s b) (gone_as s c))
  applied_made o lawful some = search (rules, gone o lawful some, timed, moved, unmarked)

-- what is to be shown, by the next bump
abbrev Made : State → ℕ → ℕ → Option Bump → Type 0
Made s w now m = run_of s (option_map_or (λ (b : Bump). take_events w (worker_at s w).lane ++ apply_events
    (head_at s b.life.chunk) w now b.life.chunk) m []) ≡ Some (option_map_or (apply_bump s w now) m s)

-- the worker when it received these and its lane is so far
abbrev laned : State → ℕ → List ItemId → LaneStage → WorkerState
laned s w r l = record (worker_at s w) { received = r; lane = l }

-- applying the next bump of a worker is its events
pub next_made : (s : State) → IsLawful s → (w now : ℕ) → is_allowed s (command.Next w now) ≡ true
    → run_of s (events_of s (command.Next w now)) ≡ Some (command_after s (command.Next w now))
next_made s o w now allowed = by (worker_at s w).lane refl
  where
    w_in : w < length s.workers
    w_in = search (rules, ltb-true)

    -- no lane applies a bump of the class of the next one
    rests : (b : Bump) → bump_next (worker_at s w) ≡ Some b → is_under_application s (class_of s b.life.chunk) ≡ false
    rests b is = search rules

    -- the bump that the lane carries is applied
    ends : (b : Bump) (r : List ItemId) → bump_next (worker_at s w) ≡ Some b
        → IsLawful (at s b.life.chunk w s.classes (chunk_at s b.life.chunk) (laned s w r (lane.Carrying b)))
        → r ≡ (bumped_worker (worker_at s w) b (outcome_next s b)).received
        → run_of (at s b.life.chunk w s.classes (chunk_at s b.life.chunk) (laned s w r (lane.Carrying b)))
        (apply_events (head_at s b.life.chunk) w now b.life.chunk) ≡ Some (apply_bump s w now b)
    ends b r is lawful same = applied_made s b w now
        (referred_in_range s o b.life.chunk b.life.generation (next_referred s o w w_in b is)) w_in (rests b is) r o
        lawful (next_referred s o w w_in b is)
        ∙ ap (λ (q : List ItemId). Some (bumped_lists (at s b.life.chunk w s.classes
        (bumped_chunk (chunk_at s b.life.chunk) now (outcome_next s b))
        (record (worker_at s w) {
          received = q;
          lane = lane.Empty;
          applied = (worker_at s w).applied ++ applied_bump b
              (outcome_next s b) ∷ [];
        })) w b (outcome_next s b) (gone_as s b.life.chunk))) same

    -- a bump that is aboard
    aboard_made : (b : Bump) → (worker_at s w).lane ≡ lane.Carrying b → Made s w now (Some b)
    aboard_made b is =
        let bump : bump_next (worker_at s w) ≡ Some b = ap (λ l. bump_next (record (worker_at s w) { lane = l })) is in
        let start = at_start s b.life.chunk w ∙ ap (λ l. at s b.life.chunk w s.classes (chunk_at s b.life.chunk)
        (laned s w (worker_at s w).received l)) is in
        ap (λ l. run_of s (take_events w l ++ apply_events (head_at s b.life.chunk) w now b.life.chunk)) is
        ∙ (ap (λ u. run_of u (apply_events (head_at s b.life.chunk) w now b.life.chunk)) start
        ∙ ends b (worker_at s w).received bump (subst IsLawful start o)
        (ap (λ l. (bumped_worker (record (worker_at s w) { lane = l }) b (outcome_next s b)).received) (sym is)))

    -- a bump that waits in the ring
    waiting_made : (l : ItemId) → (worker_at s w).lane ≡ lane.Empty → next_bump (worker_at s w) ≡ Some l
        → bump_next (worker_at s w) ≡ Some (bump_of (length (worker_at s w).received) l)
        → Made s w now (Some (bump_of (length (worker_at s w).received) l))
    waiting_made l is next bump =
        let b = bump_of (length (worker_at s w).received) l in
        let r = (worker_at s w).received ++ l ∷ [] in
        let enabled : is_enabled s (event.TakeBump w) ≡ true = and_from _ _ (ap is_empty is)
        (lt-ltb _ _ (slice_get_within (worker_at s w).sent (length (worker_at s w).received) l next)) in
        let takes : after s (event.TakeBump w) ≡ at s l.chunk w s.classes (chunk_at s l.chunk)
        (laned s w r (lane.Carrying b)) =
        ap (λ m. option_map_or (take_bump s w) m s) next ∙ ap (λ cs. with_worker (record s { chunks = cs }) w
        (laned s w r (lane.Carrying b))) (sym (set-get_or s.chunks l.chunk no_chunk)) in
        ap (λ m. run_of s (take_events w m ++ apply_events (head_at s l.chunk) w now l.chunk)) is
        ∙ (run_step s (at s l.chunk w s.classes (chunk_at s l.chunk) (laned s w r (lane.Carrying b)))
        (event.TakeBump w) (apply_events (head_at s l.chunk) w now l.chunk) enabled takes
        ∙ ends b r bump (subst IsLawful takes (lawful_after s o (event.TakeBump w) enabled))
        (ap (λ m. (bumped_worker (record (worker_at s w) { lane = m }) b (outcome_next s b)).received) (sym is)))

    -- the lane is empty
    empty_made : (worker_at s w).lane ≡ lane.Empty → (m : Option ItemId) → next_bump (worker_at s w) ≡ m
        → Made s w now (bump_next (worker_at s w))
    empty_made is m next = here m next (ap (λ l. bump_next (record (worker_at s w) { lane = l })) is
        ∙ ap (λ n. option_map_or (λ l. Some (bump_of (length (worker_at s w).received) l)) n None) next)
      where
        here : (m : Option ItemId) → next_bump (worker_at s w) ≡ m → bump_next (worker_at s w)
            ≡ option_map_or (λ l. Some (bump_of (length (worker_at s w).received) l)) m None
            → Made s w now (bump_next (worker_at s w))
        here None next bump = subst (Made s w now) (sym bump) refl
        here (Some l) next bump = subst (Made s w now) (sym bump) (waiting_made l is next bump)

    by : (l : LaneStage) → (worker_at s w).lane ≡ l → Made s w now (bump_next (worker_at s w))
    by lane.Empty is = empty_made is (next_bump (worker_at s w)) refl
    by (lane.Carrying b) is = subst (Made s w now) (sym (ap (λ l. bump_next (record (worker_at s w) {
      lane = l;
    })) is)) (aboard_made b is)
    by (lane.Tried b) is = search rules
    by (lane.Cleared b found) is = search rules
    by (lane.Moved b) is = search rules
