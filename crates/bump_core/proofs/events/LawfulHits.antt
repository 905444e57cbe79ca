-- The events of hits leave a lawful state lawful: the marks that a hit leaves, and its time.
use Rattle.std.proofs.Common.{inl, inr, ◌≤◌, ◌≡◌, ℕ, ◌+◌, ◌<◌, true, not, ◌&&◌, nat_lt, [], ◌∷◌, ◌++◌, length, refl, sym, ap, ◌∙◌, arith}
use Rattle.std.proofs.lemmas.Bool.{and_parts, ltb-true}
use Rattle.bump_rules.specs.declared.items.ItemId.{ItemId}
use Rattle.bump_rules.specs.declared.items.Head.{Head}
use Rattle.bump_rules.specs.declared.hands.Hand.TheVariants as hand
use Rattle.bump_rules.specs.declared.events.Event.TheVariants as event
use Rattle.bump_rules.specs.Lawful.{bit}
use Rattle.bump_rules.specs.Lives.{life, one_if}
use Rattle.bump_rules.specs.Rings.{most_attempts, attempts_of}
use Rattle.model_state.specs.Rings.{IsWorker}
use Rattle.bump_rules.specs.Tables.{is_cold}
use Rattle.model_state.specs.State.{State, WorkerState, chunk_at, head_at, worker_at, with_head, with_worker, workers_on}
use Rattle.bump_rules.specs.Heads.{fetched_head, marked_head}
use Rattle.model_state.specs.Events.{may_hit, is_enabled, after, fetch, mark}
use Rattle.model_state.specs.Worlds.{holds_of, in_hand_of, references, first_hits_of, place, IsLawful}
use Rattle.bump_rules.proofs.Laws.{relawful, named_first, fetched_again, marked}
use Rattle.bump_rules.proofs.Updates.{count_push}
use Rattle.model_state.proofs.LawfulStates.{held_at, one_if_same, one_if_elsewhere, one_if_at, one_if_not_at, one_if_cases}
use Rattle.bump_core.proofs.worlds.Frames.{alone_kept, tells_kept, waits_kept, both_marked, head_lawful, time_lawful, both_lawful_off_lane, references_after, first_hits_after}
use Rattle.model_state.proofs.Enabled.{by_test, may_hit_from}

-- a hit of a current life sets FETCHED, and the first one joins the worker's first hits
pub fetch_lawful : (s : State) (w : ℕ) (l : ItemId) → IsLawful s → w < length s.workers → l.chunk < length s.chunks
    → (head_at s l.chunk).generation ≡ l.generation → IsLawful (fetch s w l)
fetch_lawful s w l o inside within current = by_test IsLawful (head_at s l.chunk).fetched (with_head s l.chunk h)
    (with_worker (with_head s l.chunk h) w y)
    (λ on. head_lawful s l.chunk h o within refl refl refl (fetched_again s.refs_limit (head_at s l.chunk)
    (place s l.chunk) (references s l.chunk) (first_hits_of s l.chunk) (o.chunks l.chunk) on))
    (λ clear. both_lawful_off_lane s l.chunk h w y within inside refl o refl refl refl refl
    (λ m ne. refl)
    (λ m ne. omega (arith, count_push m l (worker_at s w).first_hits, one_if_elsewhere m l ne))
    (relawful s.refs_limit h (place s l.chunk) (references s l.chunk) (first_hits_of t l.chunk)
    (named_first s.refs_limit (head_at s l.chunk) (place s l.chunk) (references s l.chunk) (first_hits_of s l.chunk)
    (o.chunks l.chunk) (first_hits_of t l.chunk) clear
    (omega (arith, hits (head_at s l.chunk).generation, one_if_at l (head_at s l.chunk).generation current))
    (λ g ne. omega (arith, hits g, one_if_not_at l g (λ e. ne (e ∙ sym current)))))
    (references t l.chunk) (first_hits_of t l.chunk)
    (λ g. omega (arith, references_after s l.chunk h w y within inside refl l.chunk g))
    (λ g. refl))
    (λ m. omega (arith, o.hands m))
    (record {
      ring = was.ring;
      applied = was.applied;
      accounts = record {
        accepted = was.accounts.accepted;
        attempted = was.accounts.attempted;
        most = was.accounts.most;
      };
    }))
  where
    h : Head
    h = fetched_head (head_at s l.chunk)

    y : WorkerState
    y = record (worker_at s w) { first_hits = (worker_at s w).first_hits ++ l ∷ [] }

    was : IsWorker s.capacity (worker_at s w)
    was = o.workers w inside

    t : State
    t = with_worker (with_head s l.chunk h) w y

    hits : (g : ℕ) → first_hits_of t l.chunk g ≡ first_hits_of s l.chunk g + one_if (life l.chunk g) l
    hits g = omega (
      arith,
      first_hits_after s l.chunk h w y within inside refl l.chunk g,
      count_push (life l.chunk g) l (worker_at s w).first_hits,
    )

-- a hit of a life that was fetched sets ACTIVE, and where it was clear in COLD an Idle worker
-- with a free hold attempts a bump
pub mark_lawful : (s : State) (w : ℕ) (l : ItemId) → IsLawful s → w < length s.workers → (worker_at s w).hand
    ≡ hand.Idle → l.chunk < length s.chunks → (head_at s l.chunk).generation ≡ l.generation
    → workers_on s l < (chunk_at s l.chunk).holds → (head_at s l.chunk).fetched ≡ true
    → (worker_at s w).accounts.attempted < most_attempts → IsLawful (mark s w l)
mark_lawful s w l o inside idle within current free fetched few =
    by_test IsLawful (not (head_at s l.chunk).active && is_cold (head_at s l.chunk).segment)
    (with_worker (with_head s l.chunk h) w y) (with_head s l.chunk h)
    (λ attempts. both_marked s l.chunk true w y o within inside set
    (λ m. omega (arith, ap (in_hand_of m) idle))
    (λ m. refl)
    (λ m. elim (one_if_cases m l) [
      | inl e ↦ omega (
        arith,
        ap (workers_on s) e,
        ap (holds_of s) e,
        ap (λ k. one_if k l) e,
        one_if_same l,
        held_at (chunk_at s l.chunk) l.generation current,
      )
      | inr none ↦ omega (arith, o.hands m)
    ])
    (record {
      ring = was.ring;
      applied = was.applied;
      accounts = record {
        accepted = was.accounts.accepted;
        attempted = omega (arith, was.accounts.attempted, ap attempts_of idle);
        most =
            omega (arith, few);
      };
    })
    (alone_kept s w y inside o refl)
    (waits_kept s l.chunk h w o inside refl refl)
    (tells_kept s w o inside))
    (λ no. head_lawful s l.chunk h o within refl refl refl (marked s.refs_limit (head_at s l.chunk) (place s l.chunk)
    (references s l.chunk) (first_hits_of s l.chunk) (o.chunks l.chunk) true set))
  where
    h : Head
    h = marked_head (head_at s l.chunk)

    y : WorkerState
    y = record (worker_at s w) {
      hand = hand.Trying l;
      accounts = record (worker_at s w).accounts {
        attempted = (worker_at s w).accounts.attempted + 1;
      };
    }

    was : IsWorker s.capacity (worker_at s w)
    was = o.workers w inside

    set : bit true ≤ bit (head_at s l.chunk).fetched
    set = omega (arith, ap bit fetched)

-- The events.

-- the first step of a hit
pub after_fetch : (s : State) (w : ℕ) (l : ItemId) → IsLawful s → is_enabled s (event.Fetch w l) ≡ true
    → IsLawful (after s (event.Fetch w l))
after_fetch s w l o enabled = let hits = may_hit_from s w l enabled in fetch_lawful s w l o hits.0 hits.2 hits.3

-- the second step of a hit
pub after_mark : (s : State) (w : ℕ) (l : ItemId) → IsLawful s → is_enabled s (event.Mark w l) ≡ true
    → IsLawful (after s (event.Mark w l))
after_mark s w l o enabled = let inside = and_parts (may_hit s w l) ((head_at s l.chunk).fetched && nat_lt
    (worker_at s w).accounts.attempted most_attempts) enabled in
    let hits = may_hit_from s w l inside.0 in
    let marks = and_parts (head_at s l.chunk).fetched
    (nat_lt (worker_at s w).accounts.attempted most_attempts) inside.1 in
    mark_lawful s w l o hits.0 hits.1 hits.2 hits.3 hits.4 marks.0
    (ltb-true (worker_at s w).accounts.attempted most_attempts marks.1)

-- a hit stores the time
pub after_store_time : (s : State) (l : ItemId) (t : ℕ) → IsLawful s → is_enabled s (event.StoreTime l t) ≡ true
    → IsLawful (after s (event.StoreTime l t))
after_store_time s l t o enabled = time_lawful s l.chunk t o
