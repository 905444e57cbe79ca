-- What an event leaves as it was: a state in which one chunk and one worker changed is lawful where these are.
use Rattle.std.proofs.Common.{◌≡◌, ℕ, ◌+◌, ◌<◌, ◌≤◌, ◌≢◌, true, false, cond, eqb, List, length, slice_index_or, slice_set, refl, sym, ap, ◌∙◌, subst, Some, arith, Bool, inl, inr, ap₂}
use Rattle.std.proofs.lemmas.List.{get_or-set_same, get_or-set_other, set-get_or, length-set, set_past}
use Rattle.std.proofs.lemmas.Bool.{cases_lt}
use mathlib.Core.Logic.{dite}
use native.Mathlib.Decide.{ℕ_discrete}
use Rattle.bump_rules.specs.declared.items.ItemId.{ItemId}
use Rattle.bump_rules.specs.declared.items.Head.{Head}
use Rattle.model_state.specs.declared.chunks.Chunk.{Chunk}
use Rattle.bump_rules.specs.declared.lanes.LaneStage.{LaneStage}
use Rattle.bump_rules.specs.declared.lanes.LaneStage.TheVariants as lane
use Rattle.bump_rules.specs.Lawful.{bit, Lawful}
use Rattle.bump_rules.specs.Lives.{life, one_if, count_of}
use Rattle.bump_rules.specs.Totals.{total, how_many}
use Rattle.bump_rules.specs.Entries.{is_told_gone, moving, moves_told}
use Rattle.model_state.specs.Rings.{IsWorker}
use Rattle.model_state.specs.State.{State, WorkerState, chunk_at, head_at, worker_at, no_chunk, new_worker, with_chunk, with_head, with_worker, class_of, workers_on}
use Rattle.bump_rules.specs.Hands.{is_on}
use Rattle.bump_rules.specs.Lanes.{applied_life}
use Rattle.bump_rules.specs.Heads.{one_fewer}
use Rattle.model_state.specs.Events.{with_time, with_label}
use Rattle.model_state.specs.Worlds.{holds_of, bumps_of, references, first_hits_of, place, Tiles, WaitsToMove, is_of_class, CountsMoves, WasUnlinked, IsLawful}
use Rattle.bump_rules.proofs.Laws.{relawful, marked, unreferred}
use Rattle.model_state.proofs.LawfulStates.{held_by, one_if_elsewhere, one_if_at, one_if_not_at}
use Rattle.bump_rules.proofs.Updates.{same_read, total_written}

-- the state with other chunks and workers
abbrev pub with_parts : State → List Chunk → List WorkerState → State
with_parts s cs ws = record s { chunks = cs; workers = ws }

-- how often the first hits of a worker name a life
abbrev pub hits_in : ItemId → WorkerState → ℕ
hits_in l x = count_of l x.first_hits

-- no other lane applies a bump of the class at which the lane of the new worker works
abbrev pub AppliesAlone : State → ℕ → WorkerState → Type 0
AppliesAlone s w y = (v : ℕ) (l m : ItemId) → v < length s.workers → v ≢ w → applied_life (worker_at s v).lane
    ≡ Some l → applied_life y.lane ≡ Some m → class_of s l.chunk ≡ class_of s m.chunk → ⊥

-- with the new worker too, each worker that is on a life has a hold for it
abbrev pub HandsHeld : State → ℕ → WorkerState → Type 0
HandsHeld s w y = (l : ItemId) → workers_on s l + is_on l y.hand ≤ holds_of s l + is_on l (worker_at s w).hand

-- what a lane tells of moves is as before
abbrev pub TellsAlike : WorkerState → WorkerState → Type 0
TellsAlike x y = (test : ItemId → Bool) (n : ℕ) → moves_told test n y.applied y.lane
    ≡ moves_told test n x.applied x.lane

-- the new worker's lane tells of the moves of which it told, and each item that it tells of as gone was unlinked
abbrev pub TellsTrue : State → ℕ → WorkerState → Type 0
TellsTrue s w y = TellsAlike (worker_at s w) y × WasUnlinked s y

-- a lane that tells what it told
pub tells_kept : (s : State) (w : ℕ) → IsLawful s → w < length s.workers → TellsTrue s w (worker_at s w)
tells_kept s w o within = ((λ test n. refl), o.gone w within)

-- a lane that is further on with its bump, and did not move its item
pub tells_further : (s : State) (w : ℕ) (x z : LaneStage) → IsLawful s → w < length s.workers → (worker_at s w).lane ≡ x
    → ((test : ItemId → Bool) (n : ℕ) → moving test n z ≡ moving test n x) → TellsTrue s w (record (worker_at s w) {
      lane = z;
    })
tells_further s w x z o within is same = (
  (λ test n. omega (arith, same test n, ap (moving test n) is)),
  o.gone w within,
)

-- All chunks but c and the counts of their lives are as before: where c is lawful all are.
pub chunks_framed : (s : State) (cs : List Chunk) (ws : List WorkerState) → IsLawful s → (c : ℕ)
    → ((d : ℕ) → d ≢ c → slice_index_or cs d no_chunk ≡ chunk_at s d)
    → ((l : ItemId) → l.chunk ≢ c → total (bumps_of l) ws ≡ total (bumps_of l) s.workers)
    → ((l : ItemId) → l.chunk ≢ c → total (hits_in l) ws ≡ total (hits_in l) s.workers)
    → Lawful s.refs_limit (head_at (with_parts s cs ws) c) (place s c) (references (with_parts s cs ws) c)
    (first_hits_of (with_parts s cs ws) c)
    → (d : ℕ) → Lawful s.refs_limit (head_at (with_parts s cs ws) d) (place s d) (references (with_parts s cs ws) d)
    (first_hits_of (with_parts s cs ws) d)
chunks_framed s cs ws o c others bumps hits here d = dite (ℕ_discrete d c)
    (λ e. subst (λ k. Lawful s.refs_limit (head_at (with_parts s cs ws) k) (place s k)
    (references (with_parts s cs ws) k) (first_hits_of (with_parts s cs ws) k)) (sym e) here)
    (λ ne. subst (λ (x : Chunk). Lawful s.refs_limit x.head (place s d) (references (with_parts s cs ws) d)
    (first_hits_of (with_parts s cs ws) d)) (sym (others d ne))
    (relawful s.refs_limit (head_at s d) (place s d) (references s d) (first_hits_of s d) (o.chunks d)
    (references (with_parts s cs ws) d) (first_hits_of (with_parts s cs ws) d)
    (λ g. omega (arith, bumps (life d g) ne, ap (λ x. held_by x g) (others d ne)))
    (λ g. hits (life d g) ne)))

-- An item that waits to be moved still does where LINKED and the segment bits of its chunk are as before.
pub waits_framed : (s t : State) → ((d : ℕ) → (head_at t d).linked ≡ (head_at s d).linked)
    → ((d : ℕ) → (head_at t d).segment ≡ (head_at s d).segment)
    → (x : LaneStage) → WaitsToMove s x → WaitsToMove t x
waits_framed s t linked segments lane.Empty waits = tt
waits_framed s t linked segments (lane.Carrying b) waits = tt
waits_framed s t linked segments (lane.Tried b) waits = tt
waits_framed s t linked segments (lane.Cleared b true) waits = (
  linked b.life.chunk ∙ waits.0,
  segments b.life.chunk
      ∙ waits.1,
)
waits_framed s t linked segments (lane.Cleared b false) waits = tt
waits_framed s t linked segments (lane.Moved b) waits = tt

-- One chunk changed: where it changed the new chunk is read.
pub chunk_here : (s : State) (c : ℕ) (x : Chunk) → c < length s.chunks → chunk_at (with_chunk s c x) c ≡ x
chunk_here s c x within = get_or-set_same s.chunks c x no_chunk within

-- A head written where it stands changes nothing.
pub same_head : (s : State) (c : ℕ) → with_head s c (head_at s c) ≡ s
same_head s c = ap (λ (cs : List Chunk). record s { chunks = cs }) (set-get_or s.chunks c no_chunk)

-- What is as before for the chunk is as before for all.
pub each_chunk : (s : State) (c : ℕ) (x : Chunk) → {A : Type 0} (f : Chunk → A) → f x ≡ f (chunk_at s c) → (d : ℕ)
    → f (chunk_at (with_chunk s c x) d) ≡ f (chunk_at s d)
each_chunk s c x f same d = same_read f s.chunks c x no_chunk same d

-- A lane that waits does so where one head changed, and neither LINKED nor the segment bits.
pub waits_kept : (s : State) (c : ℕ) (h : Head) (w : ℕ) → IsLawful s → w < length s.workers → h.linked
    ≡ (head_at s c).linked → h.segment ≡ (head_at s c).segment → WaitsToMove (with_head s c h) (worker_at s w).lane
waits_kept s c h w o within linked segments = waits_framed s (with_head s c h)
    (each_chunk s c (record (chunk_at s c) { head = h }) (λ z. z.head.linked) linked)
    (each_chunk s c (record (chunk_at s c) { head = h }) (λ z. z.head.segment) segments)
    (worker_at s w).lane (o.waits w within)

-- One worker changed.
module _ (s : State) (w : ℕ) (y : WorkerState) (within : w < length s.workers) where
  -- where it changed the new worker is read
  pub worker_here : slice_index_or (slice_set s.workers w y) w new_worker ≡ y
  worker_here = get_or-set_same s.workers w y new_worker within

  -- what holds of it and of each other worker holds of all
  pub each_worker : (P : WorkerState → Type 0) → P y → ((v : ℕ) → v < length s.workers → P (worker_at s v))
      → (v : ℕ) → v < length (slice_set s.workers w y) → P (slice_index_or (slice_set s.workers w y) v new_worker)
  each_worker P new old v inside = dite (ℕ_discrete v w)
      (λ e. subst (λ k. P (slice_index_or (slice_set s.workers w y) k new_worker)) (sym e)
      (subst P (sym worker_here) new))
      (λ ne. subst P (sym (get_or-set_other s.workers w v y new_worker ne)) (old v (omega (
        arith,
        length-set s.workers w y,
      ))))

  -- where no other lane applies a bump of the class at which the new lane works, still at most one does
  pub alone_after : IsLawful s
      → AppliesAlone s w y
      → (v u : ℕ) (l m : ItemId) → v < length (slice_set s.workers w y) → u < length (slice_set s.workers w y)
      → applied_life (slice_index_or (slice_set s.workers w y) v new_worker).lane ≡ Some l
      → applied_life (slice_index_or (slice_set s.workers w y) u new_worker).lane ≡ Some m
      → class_of s l.chunk ≡ class_of s m.chunk → v ≡ u
  alone_after o other v u l m inside inside_too of_v of_u same = dite (ℕ_discrete v w)
      (λ e. dite (ℕ_discrete u w) (λ e_too. e ∙ sym e_too)
      (λ ne. absurd (other u m l (omega (arith, length-set s.workers w y)) ne (ap (λ x. applied_life x.lane)
      (sym (get_or-set_other s.workers w u y new_worker ne)) ∙ of_u) (ap (λ x. applied_life x.lane)
      (sym (at_w v e)) ∙ of_v) (sym same))))
      (λ ne. dite (ℕ_discrete u w)
      (λ e. absurd (other v l m (omega (arith, length-set s.workers w y)) ne (ap (λ x. applied_life x.lane)
      (sym (get_or-set_other s.workers w v y new_worker ne)) ∙ of_v) (ap (λ x. applied_life x.lane)
      (sym (at_w u e)) ∙ of_u) same))
      (λ ne_too. o.alone v u l m (omega (arith, length-set s.workers w y)) (omega (arith, length-set s.workers w y))
      (ap (λ x. applied_life x.lane) (sym (get_or-set_other s.workers w v y new_worker ne))
      ∙ of_v) (ap (λ x. applied_life x.lane) (sym (get_or-set_other s.workers w u y new_worker ne_too))
      ∙ of_u) same))
    where
      at_w : (k : ℕ) → k ≡ w → slice_index_or (slice_set s.workers w y) k new_worker ≡ y
      at_w k e = ap (λ j. slice_index_or (slice_set s.workers w y) j new_worker) e ∙ worker_here

  -- a lane that applies what it applied is alone as before
  pub alone_kept : IsLawful s → applied_life y.lane ≡ applied_life (worker_at s w).lane → AppliesAlone s w y
  alone_kept o same v l m inside ne of_v of_y classes = ne (o.alone v w l m inside within of_v (sym same
      ∙ of_y) classes)

-- What the histories and the lanes say of moves agrees as before where a worker's lane tells
-- of the moves of which it told.
pub moves_kept : (s : State) (w : ℕ) (y : WorkerState) → IsLawful s → TellsAlike (worker_at s w) y
    → (k v n : ℕ) (test : ItemId → Bool) → CountsMoves (with_worker s w y) k v n test
moves_kept s w y o same k v n test = o.moves k v n test
    ∙ sym (same_read (λ x. moves_told (is_of_class s k test) n x.applied x.lane) s.workers w y new_worker
    (same (is_of_class s k test) n) v)

-- One worker changed, and no chunk: the state is lawful where the worker's bumps and first hits are as before.
pub worker_lawful : (s : State) (w : ℕ) (y : WorkerState) → IsLawful s → w < length s.workers
    → ((l : ItemId) → bumps_of l y ≡ bumps_of l (worker_at s w))
    → ((l : ItemId) → hits_in l y ≡ hits_in l (worker_at s w))
    → ((l : ItemId) → is_on l y.hand ≤ is_on l (worker_at s w).hand)
    → IsWorker s.capacity y
    → AppliesAlone s w y
    → WaitsToMove s y.lane
    → TellsTrue s w y
    → IsLawful (with_worker s w y)
worker_lawful s w y o within bumps hits hands lawful alone waits tells = record {
  limit = o.limit;
  tiles = o.tiles;
  chunks = λ c. relawful s.refs_limit (head_at s c) (place s c) (references s c) (first_hits_of s c) (o.chunks c)
      (references (with_worker s w y) c) (first_hits_of (with_worker s w y) c)
      (λ g. omega (arith, bumps (life c g), total_written (bumps_of (life c g)) s.workers w y new_worker within))
      (λ g. omega (arith, hits (life c g), total_written (hits_in (life c g)) s.workers w y new_worker within));
  hands = λ l. omega (arith, o.hands l, hands l, total_written (λ x. is_on l x.hand) s.workers w y new_worker within);
  generations = o.generations;
  classes = o.classes;
  workers = each_worker s w y within (IsWorker s.capacity) lawful o.workers;
  alone = alone_after s w y within o alone;
  waits = each_worker s w y within (λ x. WaitsToMove s x.lane) waits o.waits;
  moves = moves_kept s w y o tells.0;
  gone = each_worker s w y within (WasUnlinked s) tells.1 o.gone;
}

-- One chunk changed, which stays in its life, and no worker.
pub chunk_lawful : (s : State) (c : ℕ) (x : Chunk) → IsLawful s → c < length s.chunks
    → x.head.generation ≡ (head_at s c).generation → x.head.linked ≡ (head_at s c).linked → x.head.segment
    ≡ (head_at s c).segment
    → Lawful s.refs_limit x.head (place s c) (references (with_chunk s c x) c) (first_hits_of s c)
    → ((g : ℕ) → workers_on s (life c g) ≤ held_by x g)
    → IsLawful (with_chunk s c x)
chunk_lawful s c x o within generations linked segments lawful hands = record {
  limit = o.limit;
  tiles = subst (Tiles 0 s.classes) (sym (length-set s.chunks c x)) o.tiles;
  chunks = chunks_framed s (slice_set s.chunks c x) s.workers o c
      (λ d ne. get_or-set_other s.chunks c d x no_chunk ne) (λ l ne. refl) (λ l ne. refl)
      (subst (λ (z : Chunk). Lawful s.refs_limit z.head (place s c) (references (with_chunk s c x) c)
      (first_hits_of s c)) (sym (chunk_here s c x within)) lawful);
  hands = λ l. dite (ℕ_discrete l.chunk c)
      (λ e. subst (λ k. workers_on s (life k l.generation) ≤ held_by (chunk_at (with_chunk s c x) k) l.generation)
      (sym e)
      (subst (λ (z : Chunk). workers_on s (life c l.generation) ≤ held_by z l.generation)
      (sym (chunk_here s c x within)) (hands l.generation)))
      (λ ne. omega (
        arith,
        o.hands l,
        ap (λ z. held_by z l.generation)
            (get_or-set_other s.chunks c l.chunk x no_chunk ne),
      ));
  generations = λ d. o.generations d ∙ sym (each_chunk s c x (λ z. z.head.generation) generations d);
  classes = o.classes;
  workers = o.workers;
  alone = o.alone;
  waits = λ v inside. waits_framed s (with_chunk s c x) (each_chunk s c x (λ z. z.head.linked) linked)
      (each_chunk s c x (λ z. z.head.segment) segments) (worker_at s v).lane (o.waits v inside);
  moves = o.moves;
  gone = o.gone;
}

-- One chunk changed, and neither its holds nor its generation.
pub chunk_kept : (s : State) (c : ℕ) (x : Chunk) → IsLawful s → c < length s.chunks
    → x.holds ≡ (chunk_at s c).holds → x.head.generation ≡ (head_at s c).generation → x.head.linked
    ≡ (head_at s c).linked → x.head.segment ≡ (head_at s c).segment
    → Lawful s.refs_limit x.head (place s c) (references s c) (first_hits_of s c)
    → IsLawful (with_chunk s c x)
chunk_kept s c x o within holds generations linked segments lawful =
    chunk_lawful s c x o within generations linked segments
    (relawful s.refs_limit x.head (place s c) (references s c) (first_hits_of s c) lawful
    (references (with_chunk s c x) c) (first_hits_of s c)
    (λ g. omega (arith, ap (λ z. held_by z g) (chunk_here s c x within), same g))
    (λ g. refl))
    (λ g. omega (arith, o.hands (life c g), same g))
  where
    same : (g : ℕ) → held_by x g ≡ held_by (chunk_at s c) g
    same g = ap (λ n. cond (eqb n g) x.holds 0) generations ∙ ap (λ n. cond (eqb (head_at s c).generation g) n 0) holds

-- The time of a chunk is no part of what is lawful.
pub time_lawful : (s : State) (c t : ℕ) → IsLawful s → IsLawful (with_time s c t)
time_lawful s c t o = elim (cases_lt c (length s.chunks)) [
  | inl within ↦ chunk_kept s c (record (chunk_at s c) { time = t }) o within refl refl refl refl (o.chunks c)
  | inr past ↦ subst (λ cs. IsLawful (record s { chunks = cs })) (sym (set_past s.chunks c (record (chunk_at s c) {
    time = t;
  }) past)) o
]

-- Nor is its label.
pub label_lawful : (s : State) (c x : ℕ) → IsLawful s → IsLawful (with_label s c x)
label_lawful s c x o = elim (cases_lt c (length s.chunks)) [
  | inl within ↦ chunk_kept s c (record (chunk_at s c) { label = x }) o within refl refl refl refl (o.chunks c)
  | inr past ↦ subst (λ cs. IsLawful (record s { chunks = cs })) (sym (set_past s.chunks c (record (chunk_at s c) {
    label = x;
  }) past)) o
]

-- One head changed, in its marks alone.
pub head_lawful : (s : State) (c : ℕ) (h : Head) → IsLawful s → c < length s.chunks → h.generation
    ≡ (head_at s c).generation → h.linked ≡ (head_at s c).linked → h.segment ≡ (head_at s c).segment
    → Lawful s.refs_limit h (place s c) (references s c) (first_hits_of s c) → IsLawful (with_head s c h)
head_lawful s c h o within generations linked segments lawful = chunk_kept s c (record (chunk_at s c) {
  head = h;
}) o within refl generations linked segments lawful

-- One head changed, and one worker.
module _ (s : State) (c : ℕ) (h : Head) (w : ℕ) (y : WorkerState) (within_chunks : c < length s.chunks)
    (within : w < length s.workers) (same : h.generation ≡ (head_at s c).generation) where
  -- the holds are as before
  pub holds_kept : (l : ItemId) → holds_of (with_worker (with_head s c h) w y) l ≡ holds_of s l
  holds_kept l = each_chunk s c (record (chunk_at s c) { head = h }) (λ z. held_by z l.generation)
      (ap (λ n. cond (eqb n l.generation) (chunk_at s c).holds 0) same) l.chunk

  -- the references change by the worker's bumps
  pub references_after : (d g : ℕ) → references (with_worker (with_head s c h) w y) d g + bumps_of (life d g)
      (worker_at s w) ≡ references s d g + bumps_of (life d g) y
  references_after d g = omega (
    arith,
    holds_kept (life d g),
    total_written (bumps_of (life d g)) s.workers w y new_worker within,
  )

  -- the first hits change by the worker's
  pub first_hits_after : (d g : ℕ) → first_hits_of (with_worker (with_head s c h) w y) d g + hits_in (life d g)
      (worker_at s w) ≡ first_hits_of s d g + hits_in (life d g) y
  first_hits_after d g = total_written (hits_in (life d g)) s.workers w y new_worker within

  -- the state is lawful where the chunk and the worker are, and where the worker changed nothing of other chunks
  pub both_lawful : IsLawful s
      → h.linked ≡ (head_at s c).linked → h.segment ≡ (head_at s c).segment
      → ((l : ItemId) → l.chunk ≢ c → bumps_of l y ≡ bumps_of l (worker_at s w))
      → ((l : ItemId) → l.chunk ≢ c → hits_in l y ≡ hits_in l (worker_at s w))
      → Lawful s.refs_limit h (place s c) (references (with_worker (with_head s c h) w y) c) (first_hits_of
      (with_worker (with_head s c h) w y) c)
      → HandsHeld s w y
      → IsWorker s.capacity y
      → AppliesAlone s w y
      → WaitsToMove (with_head s c h) y.lane
      → TellsTrue s w y
      → IsLawful (with_worker (with_head s c h) w y)
  both_lawful o linked segments bumps hits lawful hands new alone waits tells = record {
    limit = o.limit;
    tiles = subst (Tiles 0 s.classes) (sym (length-set s.chunks c (record (chunk_at s c) { head = h }))) o.tiles;
    chunks = chunks_framed s (slice_set s.chunks c (record (chunk_at s c) { head = h })) (slice_set s.workers w y) o c
        (λ d ne. get_or-set_other s.chunks c d (record (chunk_at s c) { head = h }) no_chunk ne)
        (λ l ne. omega (arith, bumps l ne, total_written (bumps_of l) s.workers w y new_worker within))
        (λ l ne. omega (arith, hits l ne, total_written (hits_in l) s.workers w y new_worker within))
        (subst (λ (z : Chunk). Lawful s.refs_limit z.head (place s c)
        (references (with_worker (with_head s c h) w y) c) (first_hits_of (with_worker (with_head s c h) w y) c))
        (sym (chunk_here s c (record (chunk_at s c) { head = h }) within_chunks)) lawful);
    hands = λ l. omega (
      arith,
      holds_kept l,
      hands l,
      total_written (λ x. is_on l x.hand) s.workers w y new_worker within,
    );
    generations = λ d. o.generations d ∙ sym (each_chunk s c (record (chunk_at s c) { head = h })
        (λ z. z.head.generation) same d);
    classes = o.classes;
    workers = each_worker s w y within (IsWorker s.capacity) new o.workers;
    alone = alone_after s w y within o alone;
    waits = each_worker s w y within (λ x. WaitsToMove (with_head s c h) x.lane) waits
        (λ v inside. waits_kept s c h v o inside linked segments);
    moves = moves_kept s w y o tells.0;
    gone = each_worker s w y within (WasUnlinked s) tells.1 o.gone;
  }

  -- the same where the worker's lane is as before
  pub both_lawful_off_lane : IsLawful s → y.lane ≡ (worker_at s w).lane → y.applied ≡ (worker_at s w).applied
      → h.linked ≡ (head_at s c).linked → h.segment ≡ (head_at s c).segment
      → ((l : ItemId) → l.chunk ≢ c → bumps_of l y ≡ bumps_of l (worker_at s w))
      → ((l : ItemId) → l.chunk ≢ c → hits_in l y ≡ hits_in l (worker_at s w))
      → Lawful s.refs_limit h (place s c) (references (with_worker (with_head s c h) w y) c) (first_hits_of
      (with_worker (with_head s c h) w y) c)
      → HandsHeld s w y
      → IsWorker s.capacity y
      → IsLawful (with_worker (with_head s c h) w y)
  both_lawful_off_lane o lanes entries linked segments bumps hits lawful hands new =
      both_lawful o linked segments bumps hits lawful hands new
      (alone_kept s w y within o (ap applied_life lanes))
      (subst (WaitsToMove (with_head s c h)) (sym lanes) (waits_kept s c h w o within linked segments)) (
        (λ test n. ap₂ (moves_told test n) entries lanes),
        (λ l some. o.gone w within l (omega (
          arith,
          some,
          ap (how_many (is_told_gone l)) entries,
        ))),
      )

-- One head's ACTIVE changed, and one worker that has the bumps and the first hits that it had.
pub both_marked : (s : State) (c : ℕ) (b : Bool) (w : ℕ) (y : WorkerState) → IsLawful s → c < length s.chunks
    → w < length s.workers
    → bit b ≤ bit (head_at s c).fetched
    → ((l : ItemId) → bumps_of l y ≡ bumps_of l (worker_at s w))
    → ((l : ItemId) → hits_in l y ≡ hits_in l (worker_at s w))
    → HandsHeld s w y
    → IsWorker s.capacity y
    → AppliesAlone s w y
    → WaitsToMove (with_head s c (record (head_at s c) { active = b })) y.lane
    → TellsTrue s w y
    → IsLawful (with_worker (with_head s c (record (head_at s c) { active = b })) w y)
both_marked s c b w y o within inside below bumps hits hands new alone waits tells =
    both_lawful s c h w y within inside refl o refl refl (λ l ne. bumps l) (λ l ne. hits l)
    (relawful s.refs_limit h (place s c) (references s c) (first_hits_of s c)
    (marked s.refs_limit (head_at s c) (place s c) (references s c) (first_hits_of s c) (o.chunks c) b below)
    (references t c) (first_hits_of t c)
    (λ g. omega (arith, references_after s c h w y within inside refl c g, bumps (life c g)))
    (λ g. omega (arith, first_hits_after s c h w y within inside refl c g, hits (life c g))))
    hands new alone waits tells
  where
    h : Head
    h = record (head_at s c) { active = b }

    t : State
    t = with_worker (with_head s c h) w y

-- One reference to a chunk's life given back by the worker whose bump had it.
pub both_unreferred : (s : State) (l : ItemId) (w : ℕ) (y : WorkerState) → IsLawful s → l.chunk < length s.chunks
    → w < length s.workers → l.generation ≡ (head_at s l.chunk).generation
    → ((m : ItemId) → bumps_of m y + one_if m l ≡ bumps_of m (worker_at s w))
    → ((m : ItemId) → hits_in m y ≡ hits_in m (worker_at s w))
    → HandsHeld s w y
    → IsWorker s.capacity y
    → AppliesAlone s w y
    → WaitsToMove (with_head s l.chunk (one_fewer (head_at s l.chunk))) y.lane
    → TellsTrue s w y
    → IsLawful (with_worker (with_head s l.chunk (one_fewer (head_at s l.chunk))) w y)
both_unreferred s l w y o within inside current bumps hits hands new alone waits tells =
    both_lawful s l.chunk h w y within inside refl o refl refl
    (λ m ne. omega (arith, bumps m, one_if_elsewhere m l ne))
    (λ m ne. hits m)
    (relawful s.refs_limit h (place s l.chunk) (references t l.chunk) (first_hits_of s l.chunk)
    (unreferred s.refs_limit (head_at s l.chunk) (place s l.chunk) (references s l.chunk) (first_hits_of s l.chunk)
    (o.chunks l.chunk) (references t l.chunk)
    (omega (arith, refers (head_at s l.chunk).generation, one_if_at l (head_at s l.chunk).generation (sym current)))
    (λ g ne. omega (arith, refers g, one_if_not_at l g (λ e. ne (e ∙ current)))))
    (references t l.chunk) (first_hits_of t l.chunk)
    (λ g. refl)
    (λ g. omega (arith, first_hits_after s l.chunk h w y within inside refl l.chunk g, hits (life l.chunk g))))
    hands new alone waits tells
  where
    h : Head
    h = one_fewer (head_at s l.chunk)

    t : State
    t = with_worker (with_head s l.chunk h) w y

    refers : (g : ℕ) → references t l.chunk g + one_if (life l.chunk g) l ≡ references s l.chunk g
    refers g = omega (arith, references_after s l.chunk h w y within inside refl l.chunk g, bumps (life l.chunk g))
