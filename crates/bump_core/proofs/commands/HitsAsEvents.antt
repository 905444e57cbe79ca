-- A hit is its events.
use Rattle.std.proofs.Common.{rules, ◌≡◌, ℕ, ◌+◌, ◌-◌, ◌<◌, ◌≤◌, ltb, eqb, Bool, true, false, not, ◌&&◌, List, [], ◌∷◌, ◌++◌, length, Some, None, refl, sym, ap, ◌∙◌, arith}
use Rattle.std.proofs.lemmas.Bool.{and_parts, and_from, ltb-true, lt-ltb, cond-true, cond-false, and_right}
use Rattle.std.specs.Option.{option_map_or}
use Rattle.std.specs.Prelude.{is_some, Option}
use Rattle.std.proofs.lemmas.List.{get_or-set_same, length-set, set-get_or}
use Rattle.bump_rules.specs.declared.items.ItemId.{ItemId}
use Rattle.bump_rules.specs.declared.items.Head.{Head}
use Rattle.bump_rules.specs.declared.bumps.Accounts.{Accounts}
use Rattle.model_state.specs.declared.chunks.Chunk.{Chunk}
use Rattle.bump_rules.specs.declared.hands.Hand.{Hand}
use Rattle.bump_rules.specs.declared.hands.Hand.TheVariants as hand
use Rattle.bump_rules.specs.declared.events.Event.{Event}
use Rattle.bump_rules.specs.declared.events.Event.TheVariants as event
use Rattle.bump_rules.specs.declared.commands.Command.TheVariants as command
use Rattle.bump_rules.specs.declared.commands.Dropped.TheVariants.{Full, RefsFull}
use Rattle.bump_rules.specs.declared.commands.Hit.TheVariants.{First as IsFirst, Already as IsAlready, Marked as IsMarked, Attempts}
use Rattle.bump_rules.specs.Tables.{is_cold}
use Rattle.model_state.specs.State.{State, ClassState, WorkerState, chunk_at, head_at, worker_at, no_chunk, is_chunk, with_chunk, with_head, with_worker, is_current, is_held, some_and}
use Rattle.bump_rules.specs.Hands.{tried_life, life_in_hand, cleared_life}
use Rattle.model_state.specs.Worlds.{IsLawful}
use Rattle.bump_rules.specs.Rings.{most_attempts}
use Rattle.bump_rules.specs.Heads.{one_more, one_fewer, marked_head, cleared_head}
use Rattle.model_state.specs.Events.{is_enabled, after, may_hit, is_under_limit, waiting, reserve, drop_refs, push, drop_full, unmark}
use Rattle.bump_core.specs.Runs.{run_of}
use Rattle.bump_core.specs.Commands.{is_allowed, events_of, command_after, hit_at, dropped_at, attempt, hit, hit_events, attempt_events}
use Rattle.model_state.proofs.Enabled.{idle_from}
use Rattle.bump_core.proofs.events.Runs.{run_step}
use Rattle.bump_core.proofs.commands.ChangedState.{chunk_again, at, chunk_reads, worker_reads, is_worker_there, on_worker, on_both}

-- The steps of an attempt, on the life's chunk and the worker.
module _ (s : State) (l : ItemId) (w : ℕ) (c_in : l.chunk < length s.chunks) (w_in : w < length s.workers)
    (ks : List ClassState) (x : Chunk) (y : WorkerState) (es : List Event) where
  -- the state with the chunk and the worker
  abbrev t : State
  t = at s l.chunk w ks x y

  -- the worker's hand is read
  hand_at : (worker_at t w).hand ≡ y.hand
  hand_at = ap (λ (z : WorkerState). z.hand) (worker_reads s l.chunk w c_in w_in ks x y)

  -- whether the count is under the limit is read
  under_at : is_under_limit t l.chunk ≡ ltb x.head.refs s.refs_limit
  under_at = ap (λ (z : Chunk). ltb z.head.refs s.refs_limit) (chunk_reads s l.chunk w c_in w_in ks x y)

  -- the bump gets its reference
  reserve_step : y.hand ≡ hand.Trying l → ltb x.head.refs s.refs_limit ≡ true
      → run_of t (event.Reserve w ∷ es) ≡ run_of (at s l.chunk w ks (record x { head = one_more x.head }) (record y {
        hand = hand.InHand l;
      })) es
  reserve_step is under =
      let life : tried_life (worker_at t w).hand ≡ Some l = ap tried_life (hand_at ∙ is) in
      run_step t _ (event.Reserve w) es
      (ap (some_and (λ (m : ItemId). is_under_limit t m.chunk)) life ∙ (under_at ∙ under))
      (ap (λ o. option_map_or (reserve t w) o t) life
      ∙ on_both s l.chunk w c_in w_in ks x y (λ a. record a { head = one_more a.head }) (λ a b. record b {
        hand = hand.InHand l;
      }))

  -- the bump is dropped, since the count is at its limit
  drop_refs_step : y.hand ≡ hand.Trying l → ltb x.head.refs s.refs_limit ≡ false
      → run_of t (event.DropRefs w ∷ es) ≡ run_of (at s l.chunk w ks x (record y {
        hand = hand.Clearing l;
        accounts = record y.accounts { refs = y.accounts.refs + 1 };
      })) es
  drop_refs_step is over =
      let life : tried_life (worker_at t w).hand ≡ Some l = ap tried_life (hand_at ∙ is) in
      run_step t _ (event.DropRefs w) es
      (ap (some_and (λ (m : ItemId). not (is_under_limit t m.chunk))) life ∙ ap not (under_at ∙ over))
      (ap (λ o. option_map_or (drop_refs t w) o t) life
      ∙ on_worker s l.chunk w c_in w_in ks x y (λ b. record b {
        hand = hand.Clearing l;
        accounts = record b.accounts {
          refs = b.accounts.refs + 1;
        };
      }))

  -- the ring takes the bump
  push_step : y.hand ≡ hand.InHand l → y.is_open ≡ true → ltb (waiting y) s.capacity ≡ true
      → run_of t (event.Push w ∷ es) ≡ run_of (at s l.chunk w ks x (record y {
        hand = hand.Idle;
        accounts = record y.accounts { accepted = y.accounts.accepted + 1 };
        sent =
            y.sent ++ l ∷ [];
      })) es
  push_step is takes room =
      let life : life_in_hand (worker_at t w).hand ≡ Some l = ap life_in_hand (hand_at ∙ is) in
      let read = worker_reads s l.chunk w c_in w_in ks x y in
      run_step t _ (event.Push w) es
      (and_from _ _ (and_from _ _ (is_worker_there s l.chunk w c_in w_in ks x y)
      (ap (λ (z : WorkerState). z.is_open) read ∙ takes))
      (and_from _ _ (ap (λ (o : Option ItemId). is_some o) life) (ap (λ (z : WorkerState). ltb
      (waiting z) s.capacity) read ∙ room)))
      (ap (λ o. option_map_or (push t w) o t) life
      ∙ on_worker s l.chunk w c_in w_in ks x y (λ b. record b {
        hand = hand.Idle;
        accounts = record b.accounts {
          accepted = b.accounts.accepted + 1;
        };
        sent = b.sent ++ l ∷ [];
      }))

  -- the bump is dropped for want of room, and its reference is given back
  drop_full_step : y.hand ≡ hand.InHand l → ltb (length y.sent) s.capacity ≡ false
      → run_of t (event.DropFull w ∷ es) ≡ run_of (at s l.chunk w ks (record x { head = one_fewer x.head }) (record y {
        hand = hand.Clearing l;
        accounts = record y.accounts { full = y.accounts.full + 1 };
      })) es
  drop_full_step is full =
      let life : life_in_hand (worker_at t w).hand ≡ Some l = ap life_in_hand (hand_at ∙ is) in
      run_step t _ (event.DropFull w) es
      (and_from _ _ (ap (λ (o : Option ItemId). is_some o) life)
      (ap (λ (z : WorkerState). not (ltb (length z.sent) s.capacity)) (worker_reads s l.chunk w c_in w_in ks x y)
      ∙ ap not full))
      (ap (λ o. option_map_or (drop_full t w) o t) life
      ∙ on_both s l.chunk w c_in w_in ks x y (λ a. record a { head = one_fewer a.head }) (λ a b. record b {
        hand = hand.Clearing l;
        accounts = record b.accounts { full = b.accounts.full + 1 };
      }))

  -- ACTIVE is cleared after a drop
  unmark_step : y.hand ≡ hand.Clearing l → run_of t (event.Unmark w ∷ es) ≡ run_of (at s l.chunk w ks (record x {
    head = cleared_head x.head;
  }) (record y { hand = hand.Idle })) es
  unmark_step is =
      let life : cleared_life (worker_at t w).hand ≡ Some l = ap cleared_life (hand_at ∙ is) in
      run_step t _ (event.Unmark w) es
      (ap (λ (o : Option ItemId). is_some o) life)
      (ap (λ o. option_map_or (unmark t w) o t) life
      ∙ on_both s l.chunk w c_in w_in ks x y (λ a. record a { head = cleared_head a.head }) (λ a b. record b {
        hand = hand.Idle;
      }))

-- one reference more, and then one fewer
back_again : (n : ℕ) → n + 1 - 1 ≡ n
back_again n = omega arith

-- where the bumps that wait leave no room, those that were sent are at least the capacity
full_where : (x : WorkerState) (capacity : ℕ) → ltb (waiting x) capacity ≡ false → ltb (length x.sent) capacity ≡ false
full_where x capacity none = search (rules, arith)

-- FETCHED is set where it is set
fetched_again : (s : State) (w : ℕ) (l : ItemId) → (head_at s l.chunk).fetched ≡ true → after s (event.Fetch w l) ≡ s
fetched_again s w l set = cond-true (head_at s l.chunk).fetched _ _ set
    ∙ (ap (λ (b : Bool). with_head s l.chunk (record (head_at s l.chunk) { fetched = b })) (sym set)
    ∙ ap (λ cs. record s { chunks = cs }) (set-get_or s.chunks l.chunk no_chunk))

-- A hit of an Idle worker on a life that has a free hold.
module _ (s : State) (w : ℕ) (l : ItemId) (now : ℕ) (w_in : w < length s.workers) (c_in : l.chunk < length s.chunks)
    (current : is_current s l ≡ true) (some : 0 < (chunk_at s l.chunk).holds)
    (takes : (worker_at s w).is_open ≡ true) (idle : (worker_at s w).hand ≡ hand.Idle) (may : may_hit s w l
    ≡ true) (few : ltb (worker_at s w).accounts.attempted most_attempts ≡ true) where
  -- the head that the hit finds
  abbrev h : Head
  h = head_at s l.chunk

  -- the chunk
  abbrev x : Chunk
  x = chunk_at s l.chunk

  -- the worker
  abbrev y : WorkerState
  y = worker_at s w

  -- the first hit sets FETCHED
  first_made : h.fetched ≡ false → run_of s (hit_events s w l now IsFirst) ≡ Some (hit s w l now IsFirst)
  first_made clear = run_step s (hit s w l now IsFirst) (event.Fetch w l) [] may (cond-false h.fetched _ _ clear)

  -- a hit of a marked item changes nothing
  already_made : h.fetched ≡ true → run_of s (hit_events s w l now IsAlready) ≡ Some (hit s w l now IsAlready)
  already_made set = run_step s s (event.Fetch w l) [] may (fetched_again s w l set)

  -- the second step is enabled
  mark_enabled : h.fetched ≡ true → is_enabled s (event.Mark w l) ≡ true
  mark_enabled set = and_from _ _ may (and_from _ _ set few)

  -- a hit in HOT, WARM or TEMP sets ACTIVE and stores the time
  marked_made : h.fetched ≡ true → is_cold h.segment ≡ false → run_of s (hit_events s w l now IsMarked)
      ≡ Some (hit s w l now IsMarked)
  marked_made set warm =
      let z : Chunk = record x { head = marked_head h } in
      let t = with_chunk s l.chunk z in
      let read : chunk_at t l.chunk ≡ z = get_or-set_same s.chunks l.chunk z no_chunk c_in in
      let inside = and_parts (is_chunk s l.chunk) (eqb h.generation l.generation) current in
      let held : is_held t l ≡ true = and_from _ _ (and_from _ _ (lt-ltb l.chunk _ (omega (
        arith,
        length-set s.chunks l.chunk z,
      ))) (ap (λ (a : Chunk). eqb a.head.generation l.generation) read ∙ inside.1))
      (ap (λ (a : Chunk). ltb 0 a.holds) read ∙ lt-ltb 0 x.holds some) in
      run_step s s (event.Fetch w l) (event.Mark w l ∷ event.StoreTime l now ∷ []) may (fetched_again s w l set)
      ∙ (run_step s t (event.Mark w l) (event.StoreTime l now ∷ []) (mark_enabled set)
      (cond-false (not h.active && is_cold h.segment) _ _ (and_right (not h.active) (is_cold h.segment) warm))
      ∙ run_step t (hit s w l now IsMarked) (event.StoreTime l now) [] held
      (chunk_again s l.chunk z (λ (a : Chunk). record a { time = now }) c_in))

  -- the accounts once the attempt began
  abbrev began : Accounts
  began = record y.accounts { attempted = y.accounts.attempted + 1 }

  -- a bump is queued
  queued_made : ltb h.refs s.refs_limit ≡ true → ltb (waiting y) s.capacity ≡ true
      → run_of (at s l.chunk w s.classes (record x { head = marked_head h }) (record y {
        hand = hand.Trying l;
        accounts = began;
      })) (attempt_events w None) ≡ Some (attempt s w l None)
  queued_made under room =
      reserve_step s l w c_in w_in s.classes (record x { head = marked_head h }) (record y {
        hand = hand.Trying l;
        accounts = began;
      }) (event.Push w ∷ []) refl under
      ∙ (push_step s l w c_in w_in s.classes (record x { head = one_more (marked_head h) }) (record y {
        hand = hand.InHand l;
        accounts = began;
      }) [] refl takes room
      ∙ ap (λ (z : Hand). Some (at s l.chunk w s.classes (record x { head = one_more (marked_head h) }) (record y {
        hand = z;
        accounts = record began { accepted = y.accounts.accepted + 1 };
        sent = y.sent ++ l ∷ [];
      })))
      (sym idle))

  -- the chunk and the worker as a drop leaves them
  left_made : (n : ℕ) (a : Accounts) → n ≡ h.refs → h.active ≡ false
      → at s l.chunk w s.classes (record x { head = record h { refs = n; active = false } }) (record y {
        hand = hand.Idle;
        accounts = a;
      }) ≡ with_worker s w (record y { accounts = a })
  left_made n a same clear = ap (λ (m : ℕ). at s l.chunk w s.classes (record x {
    head = record h {
      refs = m;
      active = false;
    };
  }) (record y { hand = hand.Idle; accounts = a })) same
      ∙ (ap (λ (b : Bool). at s l.chunk w s.classes (record x { head = record h { active = b } }) (record y {
        hand = hand.Idle;
        accounts = a;
      })) (sym clear)
      ∙ (ap (λ (z : Hand). at s l.chunk w s.classes x (record y { hand = z; accounts = a })) (sym idle)
      ∙ ap (λ cs. with_worker (record s { chunks = cs }) w (record y { accounts = a }))
      (set-get_or s.chunks l.chunk no_chunk)))

  -- a bump is dropped at the limit of the count
  refs_full_made : h.active ≡ false → ltb h.refs s.refs_limit ≡ false
      → run_of (at s l.chunk w s.classes (record x { head = marked_head h }) (record y {
        hand = hand.Trying l;
        accounts = began;
      })) (attempt_events w (Some RefsFull))
      ≡ Some (attempt s w l (Some RefsFull))
  refs_full_made clear over =
      drop_refs_step s l w c_in w_in s.classes (record x { head = marked_head h }) (record y {
        hand = hand.Trying l;
        accounts = began;
      }) (event.Unmark w ∷ []) refl over
      ∙ (unmark_step s l w c_in w_in s.classes (record x { head = marked_head h }) (record y {
        hand = hand.Clearing l;
        accounts = record began { refs = y.accounts.refs + 1 };
      }) [] refl
      ∙ ap Some (left_made h.refs (record began { refs = y.accounts.refs + 1 }) refl clear))

  -- a bump is dropped for want of room
  full_made : h.active ≡ false → ltb h.refs s.refs_limit ≡ true → ltb (waiting y) s.capacity ≡ false
      → run_of (at s l.chunk w s.classes (record x { head = marked_head h }) (record y {
        hand = hand.Trying l;
        accounts = began;
      })) (attempt_events w (Some Full)) ≡ Some (attempt s w l (Some Full))
  full_made clear under none =
      reserve_step s l w c_in w_in s.classes (record x { head = marked_head h }) (record y {
        hand = hand.Trying l;
        accounts = began;
      }) (event.DropFull w ∷ event.Unmark w ∷ []) refl under
      ∙ (drop_full_step s l w c_in w_in s.classes (record x { head = one_more (marked_head h) }) (record y {
        hand = hand.InHand l;
        accounts = began;
      }) (event.Unmark w ∷ []) refl (full_where y s.capacity none)
      ∙ (unmark_step s l w c_in w_in s.classes (record x { head = one_fewer (one_more (marked_head h)) }) (record y {
        hand = hand.Clearing l;
        accounts = record began { full = y.accounts.full + 1 };
      }) [] refl
      ∙ ap Some (left_made (h.refs + 1 - 1) (record began { full = y.accounts.full + 1 }) (back_again h.refs) clear)))

  -- a hit in COLD attempts a bump
  attempt_made : h.fetched ≡ true → h.active ≡ false → is_cold h.segment ≡ true
      → run_of s (hit_events s w l now Attempts) ≡ Some (hit s w l now Attempts)
  attempt_made set clear cold =
      run_step s s (event.Fetch w l) (event.Mark w l ∷ attempt_events w (dropped_at s w l)) may
      (fetched_again s w l set)
      ∙ (run_step s (at s l.chunk w s.classes (record x { head = marked_head h }) (record y {
        hand = hand.Trying l;
        accounts = began;
      })) (event.Mark w l) (attempt_events w (dropped_at s w l))
      (mark_enabled set)
      (cond-true (not h.active && is_cold h.segment) _ _ (and_from _ _ (ap not clear) cold))
      ∙ search (rules, refs_full_made, queued_made, full_made))

  -- a hit is what the hit table says
  hit_made : run_of s (hit_events s w l now (hit_at s l)) ≡ Some (hit s w l now (hit_at s l))
  hit_made = search (rules, first_made, already_made, marked_made, attempt_made)

-- a worker that is not exhausted may still attempt a bump
few_where : (a : ℕ) → a ≤ most_attempts → eqb a most_attempts ≡ false → ltb a most_attempts ≡ true
few_where a most other = search (rules, arith)

-- a hit is its events
pub touch_made : (s : State) → IsLawful s → (w : ℕ) (l : ItemId) (now : ℕ) → is_allowed s (command.Touch w l now)
    ≡ true → run_of s (events_of s (command.Touch w l now)) ≡ Some (command_after s (command.Touch w l now))
touch_made s o w l now allowed = search (rules, arith, hit_made s w l now, idle_from, ltb-true, few_where, o.workers w)
