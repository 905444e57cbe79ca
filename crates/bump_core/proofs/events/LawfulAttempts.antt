-- An attempted bump leaves a lawful state lawful: its reference, its push, and how it is dropped.
use Rattle.std.specs.Prelude.{◌&&◌, is_some}
use Rattle.std.proofs.Common.{◌≡◌, ℕ, ◌+◌, ◌<◌, true, false, not, nat_lt, [], ◌∷◌, ◌++◌, length, refl, sym, ap, ◌∙◌, arith, append_assoc, length-append, length-drop}
use Rattle.std.proofs.lemmas.Bool.{and_parts, ltb-true}
use Rattle.bump_rules.specs.declared.items.ItemId.{ItemId}
use Rattle.bump_rules.specs.declared.bumps.Accounts.{Accounts}
use Rattle.bump_rules.specs.declared.items.Head.{Head}
use Rattle.bump_rules.specs.declared.hands.Hand.TheVariants as hand
use Rattle.bump_rules.specs.declared.events.Event.TheVariants as event
use Rattle.bump_rules.specs.Lives.{life, one_if, count_of}
use Rattle.model_state.specs.Rings.{in_ring, IsWorker}
use Rattle.bump_rules.specs.Rings.{attempts_of}
use Rattle.model_state.specs.State.{State, WorkerState, head_at, worker_at, with_head, with_worker, is_open, is_worker}
use Rattle.bump_rules.specs.Hands.{is_on, tried_life, life_in_hand, cleared_life}
use Rattle.bump_rules.specs.Heads.{one_more, one_fewer, cleared_head}
use Rattle.model_state.specs.Events.{is_under_limit, waiting, is_enabled, after, reserve, drop_refs, drop_busy, push, drop_full, unmark}
use Rattle.model_state.specs.Worlds.{in_hand_of, bumps_of, references, first_hits_of, place, IsLawful}
use Rattle.bump_rules.proofs.Laws.{relawful, referred}
use Rattle.model_state.proofs.Ring.{in_ring_push}
use Rattle.bump_rules.proofs.Updates.{count_push}
use Rattle.model_state.proofs.LawfulStates.{one_if_elsewhere, one_if_at, one_if_not_at, referred_used, tried_referred, tried_in_range, tried_current, in_hand_in_range, in_hand_current, cleared_in_range, received_within}
use Rattle.bump_core.proofs.worlds.Frames.{worker_lawful, waits_kept, both_marked, both_unreferred, both_lawful_off_lane, references_after, first_hits_after, alone_kept, tells_kept}
use Rattle.model_state.proofs.Enabled.{some_and_parts, some_from, worker_there, lawful_by_some, trying_from, in_hand_from, clearing_from, worker_from}

-- under the limit the attempted bump gets its reference
pub reserve_lawful : (s : State) (w : ℕ) (l : ItemId) → IsLawful s → w < length s.workers → (worker_at s w).hand
    ≡ hand.Trying l → (head_at s l.chunk).refs < s.refs_limit → IsLawful (reserve s w l)
reserve_lawful s w l o inside is few = both_lawful_off_lane s l.chunk h w y within inside refl o refl refl refl refl
    (λ m ne. omega (arith, bumps m, one_if_elsewhere m l ne))
    (λ m ne. refl)
    (relawful s.refs_limit h (place s l.chunk) (references t l.chunk) (first_hits_of s l.chunk)
    (referred s.refs_limit (head_at s l.chunk) (place s l.chunk) (references s l.chunk) (first_hits_of s l.chunk)
    (o.chunks l.chunk) (references t l.chunk)
    (referred_used s o l.chunk l.generation (tried_referred s o w l inside is)) few
    (omega (arith, refers (head_at s l.chunk).generation, one_if_at l (head_at s l.chunk).generation (sym current)))
    (λ g ne. omega (arith, refers g, one_if_not_at l g (λ e. ne (e ∙ current)))))
    (references t l.chunk) (first_hits_of t l.chunk)
    (λ g. refl)
    (λ g. omega (arith, first_hits_after s l.chunk h w y within inside refl l.chunk g)))
    (λ m. omega (arith, o.hands m, ap (is_on m) is))
    (record {
      ring = was.ring;
      applied = was.applied;
      accounts = record {
        accepted = was.accounts.accepted;
        attempted = omega (arith, was.accounts.attempted, ap attempts_of is);
        most =
            was.accounts.most;
      };
    })
  where
    within : l.chunk < length s.chunks
    within = tried_in_range s o w l inside is

    current : l.generation ≡ (head_at s l.chunk).generation
    current = tried_current s o w l inside is

    h : Head
    h = one_more (head_at s l.chunk)

    y : WorkerState
    y = record (worker_at s w) { hand = hand.InHand l }

    was : IsWorker s.capacity (worker_at s w)
    was = o.workers w inside

    t : State
    t = with_worker (with_head s l.chunk h) w y

    bumps : (m : ItemId) → bumps_of m y ≡ bumps_of m (worker_at s w) + one_if m l
    bumps m = omega (arith, ap (in_hand_of m) is)

    refers : (g : ℕ) → references t l.chunk g ≡ references s l.chunk g + one_if (life l.chunk g) l
    refers g = omega (arith, references_after s l.chunk h w y within inside refl l.chunk g, bumps (life l.chunk g))

-- the attempted bump is dropped, and one account counts it
dropped_lawful : (s : State) (w : ℕ) (l : ItemId) (a : Accounts) → IsLawful s → w < length s.workers
    → (worker_at s w).hand ≡ hand.Trying l
    → a.accepted ≡ (worker_at s w).accounts.accepted → a.attempted ≡ (worker_at s w).accounts.attempted
    → a.full + a.busy + a.refs ≡ (worker_at s w).accounts.full + (worker_at s w).accounts.busy +
    (worker_at s w).accounts.refs + 1
    → IsLawful (with_worker s w (record (worker_at s w) { hand = hand.Clearing l; accounts = a }))
dropped_lawful s w l a o inside is accepted attempted one_more = let was = o.workers w inside in
    let y : WorkerState = record (worker_at s w) { hand = hand.Clearing l; accounts = a } in
    worker_lawful s w y o inside
    (λ m. omega (arith, ap (in_hand_of m) is))
    (λ m. refl)
    (λ m. omega (arith, ap (is_on m) is))
    (record {
      ring = was.ring;
      applied = was.applied;
      accounts = record {
        accepted = accepted
            ∙ was.accounts.accepted;
        attempted = omega (arith, was.accounts.attempted, ap attempts_of is);
        most =
            omega (arith, was.accounts.most);
      };
    })
    (alone_kept s w y inside o refl)
    (o.waits w inside)
    (tells_kept s w o inside)

-- so it is where the count is at its limit
pub drop_refs_lawful : (s : State) (w : ℕ) (l : ItemId) → IsLawful s → w < length s.workers → (worker_at s w).hand
    ≡ hand.Trying l → IsLawful (drop_refs s w l)
drop_refs_lawful s w l o inside is = dropped_lawful s w l (record (worker_at s w).accounts {
  refs = (worker_at s w).accounts.refs + 1;
}) o inside is refl refl (omega arith)

-- and where other threads were faster too often
pub drop_busy_lawful : (s : State) (w : ℕ) (l : ItemId) → IsLawful s → w < length s.workers → (worker_at s w).hand
    ≡ hand.Trying l → IsLawful (drop_busy s w l)
drop_busy_lawful s w l o inside is = dropped_lawful s w l (record (worker_at s w).accounts {
  busy = (worker_at s w).accounts.busy + 1;
}) o inside is refl refl (omega arith)

-- where the ring has room it takes the bump in the worker's hand
pub push_lawful : (s : State) (w : ℕ) (l : ItemId) → IsLawful s → w < length s.workers → (worker_at s w).hand
    ≡ hand.InHand l → waiting (worker_at s w) < s.capacity → IsLawful (push s w l)
push_lawful s w l o inside is room = worker_lawful s w y o inside
    (λ m. omega (arith, ap (in_hand_of m) is, ap (count_of m) ring, count_push m l (in_ring (worker_at s w))))
    (λ m. refl)
    (λ m. omega arith)
    (record {
      ring = record {
        prefix = ap (λ xs. xs ++ l ∷ []) was.ring.prefix ∙ append_assoc (worker_at s w).received
            (in_ring (worker_at s w)) (l ∷ []) ∙ ap (λ xs. (worker_at s w).received ++ xs) (sym ring);
        room = omega (
          arith,
          ap length ring,
          length-append (in_ring (worker_at s w)) (l ∷ []),
          length-drop (length (worker_at s w).received) (worker_at s w).sent,
        );
      };
      applied = was.applied;
      accounts = record {
        accepted = omega (arith, was.accounts.accepted, length-append (worker_at s w).sent (l ∷ []));
        attempted = omega (arith, was.accounts.attempted, ap attempts_of is);
        most = was.accounts.most;
      };
    })
    (alone_kept s w y inside o refl)
    (o.waits w inside)
    (tells_kept s w o inside)
  where
    y : WorkerState
    y = record (worker_at s w) {
      hand = hand.Idle;
      accounts = record (worker_at s w).accounts {
        accepted = (worker_at s w).accounts.accepted + 1;
      };
      sent = (worker_at s w).sent ++ l ∷ [];
    }

    was : IsWorker s.capacity (worker_at s w)
    was = o.workers w inside

    ring : in_ring y ≡ in_ring (worker_at s w) ++ l ∷ []
    ring = in_ring_push (worker_at s w) y l (received_within s o w inside) refl refl

-- the bump in the worker's hand is dropped for want of room, and its reference is given back
pub drop_full_lawful : (s : State) (w : ℕ) (l : ItemId) → IsLawful s → w < length s.workers → (worker_at s w).hand
    ≡ hand.InHand l → IsLawful (drop_full s w l)
drop_full_lawful s w l o inside is = both_unreferred s l w y o (in_hand_in_range s o w l inside is) inside
    (in_hand_current s o w l inside is)
    (λ m. omega (arith, ap (in_hand_of m) is))
    (λ m. refl)
    (λ m. omega (arith, o.hands m, ap (is_on m) is))
    (record {
      ring = was.ring;
      applied = was.applied;
      accounts = record {
        accepted = was.accounts.accepted;
        attempted = omega (arith, was.accounts.attempted, ap attempts_of is);
        most =
            was.accounts.most;
      };
    })
    (alone_kept s w y inside o refl)
    (waits_kept s l.chunk (one_fewer (head_at s l.chunk)) w o inside refl refl)
    (tells_kept s w o inside)
  where
    y : WorkerState
    y = record (worker_at s w) {
      hand = hand.Clearing l;
      accounts = record (worker_at s w).accounts {
        full = (worker_at s w).accounts.full + 1;
      };
    }

    was : IsWorker s.capacity (worker_at s w)
    was = o.workers w inside

-- after a drop ACTIVE is cleared
pub unmark_lawful : (s : State) (w : ℕ) (l : ItemId) → IsLawful s → w < length s.workers → (worker_at s w).hand
    ≡ hand.Clearing l → IsLawful (unmark s w l)
unmark_lawful s w l o inside is = both_marked s l.chunk false w y o (cleared_in_range s o w l inside is) inside
    (omega arith)
    (λ m. omega (arith, ap (in_hand_of m) is))
    (λ m. refl)
    (λ m. omega (arith, o.hands m))
    (record {
      ring = was.ring;
      applied = was.applied;
      accounts = record {
        accepted = was.accounts.accepted;
        attempted = omega (arith, was.accounts.attempted, ap attempts_of is);
        most =
            was.accounts.most;
      };
    })
    (alone_kept s w y inside o refl)
    (waits_kept s l.chunk (cleared_head (head_at s l.chunk)) w o inside refl refl)
    (tells_kept s w o inside)
  where
    y : WorkerState
    y = record (worker_at s w) { hand = hand.Idle }

    was : IsWorker s.capacity (worker_at s w)
    was = o.workers w inside

-- The events.

-- the attempted bump gets its reference
pub after_reserve : (s : State) (w : ℕ) → IsLawful s → is_enabled s (event.Reserve w) ≡ true
    → IsLawful (after s (event.Reserve w))
after_reserve s w o enabled = let found = some_and_parts (λ l. is_under_limit s l.chunk)
    (tried_life (worker_at s w).hand) enabled in
    lawful_by_some (reserve s w) s (tried_life (worker_at s w).hand) found.0 found.1
    (reserve_lawful s w found.0 o (worker_there s w (λ x. tried_life x.hand) found.0 refl found.1)
    (trying_from (worker_at s w).hand found.0 found.1)
    (ltb-true (head_at s found.0.chunk).refs s.refs_limit found.2))

-- the attempted bump is dropped at the limit
pub after_drop_refs : (s : State) (w : ℕ) → IsLawful s → is_enabled s (event.DropRefs w) ≡ true
    → IsLawful (after s (event.DropRefs w))
after_drop_refs s w o enabled = let found = some_and_parts (λ l. not (is_under_limit s l.chunk))
    (tried_life (worker_at s w).hand) enabled in
    lawful_by_some (drop_refs s w) s (tried_life (worker_at s w).hand) found.0 found.1
    (drop_refs_lawful s w found.0 o (worker_there s w (λ x. tried_life x.hand) found.0 refl found.1)
    (trying_from (worker_at s w).hand found.0 found.1))

-- the attempted bump is dropped for other threads
pub after_drop_busy : (s : State) (w : ℕ) → IsLawful s → is_enabled s (event.DropBusy w) ≡ true
    → IsLawful (after s (event.DropBusy w))
after_drop_busy s w o enabled = let found = some_from (tried_life (worker_at s w).hand) enabled in
    lawful_by_some (drop_busy s w) s (tried_life (worker_at s w).hand) found.0 found.1
    (drop_busy_lawful s w found.0 o (worker_there s w (λ x. tried_life x.hand) found.0 refl found.1)
    (trying_from (worker_at s w).hand found.0 found.1))

-- the ring takes the bump
pub after_push : (s : State) (w : ℕ) → IsLawful s → is_enabled s (event.Push w) ≡ true
    → IsLawful (after s (event.Push w))
after_push s w o enabled = let inside = and_parts (is_open s w) (is_some (life_in_hand (worker_at s w).hand) && nat_lt
    (waiting (worker_at s w)) s.capacity) enabled in
    let more = and_parts (is_some (life_in_hand (worker_at s w).hand))
    (nat_lt (waiting (worker_at s w)) s.capacity) inside.1 in
    let found = some_from (life_in_hand (worker_at s w).hand) more.0 in
    lawful_by_some (push s w) s (life_in_hand (worker_at s w).hand) found.0 found.1
    (push_lawful s w found.0 o (worker_from s w (and_parts (is_worker s w) (worker_at s w).is_open inside.0).0)
    (in_hand_from (worker_at s w).hand found.0 found.1) (ltb-true (waiting (worker_at s w)) s.capacity more.1))

-- the bump is dropped for want of room
pub after_drop_full : (s : State) (w : ℕ) → IsLawful s → is_enabled s (event.DropFull w) ≡ true
    → IsLawful (after s (event.DropFull w))
after_drop_full s w o enabled = let found = some_from (life_in_hand (worker_at s w).hand)
    (and_parts (is_some (life_in_hand (worker_at s w).hand))
    (not (nat_lt (length (worker_at s w).sent) s.capacity)) enabled).0 in
    lawful_by_some (drop_full s w) s (life_in_hand (worker_at s w).hand) found.0 found.1
    (drop_full_lawful s w found.0 o (worker_there s w (λ x. life_in_hand x.hand) found.0 refl found.1)
    (in_hand_from (worker_at s w).hand found.0 found.1))

-- after a drop ACTIVE is cleared
pub after_unmark : (s : State) (w : ℕ) → IsLawful s → is_enabled s (event.Unmark w) ≡ true
    → IsLawful (after s (event.Unmark w))
after_unmark s w o enabled = let found = some_from (cleared_life (worker_at s w).hand) enabled in
    lawful_by_some (unmark s w) s (cleared_life (worker_at s w).hand) found.0 found.1
    (unmark_lawful s w found.0 o (worker_there s w (λ x. cleared_life x.hand) found.0 refl found.1) (clearing_from
    (worker_at s w).hand found.0 found.1))
