-- A chunk that gets another head and moves in the lists of its class keeps a World lawful.
use Rattle.std.proofs.Common.{◌≡◌, ℕ, ◌+◌, ◌-◌, ◌<◌, ◌≤◌, ◌≢◌, ◌&&◌, ◌==◌, Bool, eqb, true, false, List, length, slice_index_or, Some, refl, sym, ap, ◌∙◌, subst, arith, eq-eqb}
use Rattle.std.proofs.lemmas.Bool.{cond-true, cond-false, ne_eqb, and_right}
use Rattle.std.proofs.lemmas.List.{get_or-set_same, get_or-set_other, length-set}
use native.Mathlib.Decide.{ℕ_discrete}
use Rattle.bump_rules.specs.declared.places.Place.TheVariants.{Unused}
use Rattle.bump_rules.specs.declared.items.Head.{Head}
use Rattle.bump_rules.specs.declared.items.ItemId.{ItemId}
use Rattle.bump_rules.specs.declared.history.Change.{Change}
use Rattle.bump_rules.specs.declared.bumps.Bump.{Bump}
use Rattle.bump_rules.specs.declared.lanes.LaneStage.{LaneStage}
use Rattle.bump_rules.specs.declared.lanes.LaneStage.TheVariants as lane
use Rattle.bump_rules.specs.Lawful.{bit, Lawful}
use Rattle.bump_rules.specs.Lives.{life}
use Rattle.bump_rules.specs.Totals.{total, how_many}
use Rattle.model_state.specs.Rings.{IsWorker}
use Rattle.bump_rules.specs.Entries.{names_bump, is_stray, is_move_for, is_unlink_of, moves_told}
use Rattle.bump_rules.specs.History.{Standing, subject, target}
use Rattle.bump_rules.specs.Lists.{to_front, opening}
use Rattle.model_state.specs.State.{State, ClassState, WorkerState, chunk_at, head_at, class_at, worker_at, no_chunk, no_class, new_worker, with_head, with_change, class_with_change, class_of, workers_on}
use Rattle.bump_rules.specs.Hands.{is_on}
use Rattle.bump_rules.specs.Lanes.{applied_life}
use Rattle.model_state.specs.Worlds.{Tiles, IsLawful, IsClass, WaitsToMove, is_of_class, WasUnlinked, owns, stands_in, standing, place, references, first_hits_of, holds_of, bumps_of}
use Rattle.bump_rules.proofs.Replay.{replay_push, standing_push, are_between_push}
use Rattle.model_state.proofs.Tiles.{class_kept, tiles_kept, owner, owned_in_range}
use Rattle.model_state.proofs.LawfulStates.{held_by}
use Rattle.bump_core.proofs.worlds.Frames.{hits_in}
use Rattle.bump_rules.proofs.Laws.{lawful_same, relawful}
use Rattle.bump_rules.proofs.Counted.{how_many_push}
use Rattle.bump_rules.proofs.ToldMoves.{no_stray, no_move, told_same}

-- One more entry in the history of a class.

-- a class with one more entry of its chunks is lawful
pub class_pushed : (k : ClassState) (e : Change) → IsClass k → owns k (subject e).chunk ≡ true → is_stray e ≡ false
    → IsClass (class_with_change k e)
class_pushed k e o own straight = record {
  lists = ap (to_front (subject e).chunk (target e)) o.lists
      ∙ sym (replay_push (opening k.first (k.end - k.first)) k.history e);
  entries = are_between_push k.first k.end k.history e o.entries own;
  causes = omega (arith, o.causes, how_many_push is_stray k.history e, ap bit straight);
}

-- the entry's chunk stands at the entry's place, with its generation
pub stands_pushed : (k : ClassState) (e : Change) (c : ℕ) → (subject e).chunk ≡ c
    → stands_in (class_with_change k e) c ≡ (target e, (subject e).generation)
stands_pushed k e c is = standing_push c (Unused, k.fresh) k.history e ∙ cond-true (eqb (subject e).chunk c) (
  target e,
  (subject e).generation,
) (stands_in k c) (eq-eqb _ _ is)

-- another chunk stays where it is
pub stands_not_pushed : (k : ClassState) (e : Change) (c : ℕ) → ((subject e).chunk ≡ c → ⊥)
    → stands_in (class_with_change k e) c ≡ stands_in k c
stands_not_pushed k e c other = standing_push c (Unused, k.fresh) k.history e ∙ cond-false (eqb (subject e).chunk c)
    (target e, (subject e).generation) (stands_in k c) (ne_eqb _ _ other)

-- Workers that may stand beside a chunk that moves: each life has the bumps, the first hits and no more workers on it
-- than it had, each worker is lawful, no two lanes apply bumps of one class, and none waits to move the chunk.
pub record WorkersFit (s : State) (c : ℕ) (ws : List WorkerState) : Type 0 where
  pub bumps : (l : ItemId) → total (bumps_of l) ws ≡ total (bumps_of l) s.workers
  pub hits : (l : ItemId) → total (hits_in l) ws ≡ total (hits_in l) s.workers
  pub hands : (l : ItemId) → total (λ x. is_on l x.hand) ws ≤ workers_on s l
  pub workers : (w : ℕ) → w < length ws → IsWorker s.capacity (slice_index_or ws w new_worker)
  pub alone : (v w : ℕ) (l m : ItemId) → v < length ws → w < length ws
      → applied_life (slice_index_or ws v new_worker).lane ≡ Some l
      → applied_life (slice_index_or ws w new_worker).lane ≡ Some m → class_of s l.chunk ≡ class_of s m.chunk → v
      ≡ w
  pub waits : (w : ℕ) → w < length ws → WaitsToMove s (slice_index_or ws w new_worker).lane
  pub free : (w : ℕ) → w < length ws → (b : Bump) → (slice_index_or ws w new_worker).lane ≡ lane.Cleared b true
      → b.life.chunk ≢ c
  pub gone : (w : ℕ) → w < length ws → WasUnlinked s (slice_index_or ws w new_worker)

-- A chunk with another head, and an entry in the history of its class that moves it.
module _ (s : State) (o : IsLawful s) (c : ℕ) (h : Head) (k : ℕ) (e : Change) (within : k < length s.classes)
    (own : owns (class_at s k) c ≡ true) (is : (subject e).chunk ≡ c) where
  -- the state with the head and the entry
  abbrev changed : State
  changed = with_change (with_head s c h) k e

  -- each chunk stays in its class
  class_of_changed : (d : ℕ) → class_of changed d ≡ class_of s d
  class_of_changed d = class_kept s.classes k (class_with_change (class_at s k) e) d refl

  -- the class has the entry
  class_changed : class_at changed k ≡ class_with_change (class_at s k) e
  class_changed = get_or-set_same s.classes k (class_with_change (class_at s k) e) no_class within

  -- the other classes stay
  class_unchanged : (j : ℕ) → j ≢ k → class_at changed j ≡ class_at s j
  class_unchanged j other = get_or-set_other s.classes k j (class_with_change (class_at s k) e) no_class other

  -- the entry is counted in its class
  pub counted_changed : (test : Change → Bool) (j : ℕ) → how_many test (class_at changed j).history
      ≡ how_many test (class_at s j).history + bit ((k == j) && test e)
  counted_changed test j = by (ℕ_discrete j k)
    where
      by : Dec (j ≡ k) → how_many test (class_at changed j).history ≡ how_many test (class_at s j).history + bit
          ((k == j) && test e)
      by (yes same) = omega (
        arith,
        ap (λ (i : ℕ). how_many test (class_at changed i).history) same,
        ap (λ (i : ℕ). how_many test (class_at s i).history) same,
        ap (λ (x : ClassState). how_many test x.history) class_changed,
        how_many_push test (class_at s k).history e,
        ap (λ b. bit (b && test e)) (eq-eqb k j (sym same)),
      )
      by (no differs) = omega (
        arith,
        ap (λ (x : ClassState). how_many test x.history) (class_unchanged j differs),
        ap (λ b. bit (b && test e)) (ne_eqb k j (λ q. differs (sym q))),
      )

  -- the chunk has the head
  pub chunk_changed : chunk_at changed c ≡ record (chunk_at s c) { head = h }
  chunk_changed = get_or-set_same s.chunks c (record (chunk_at s c) { head = h }) no_chunk
      (owned_in_range s o.tiles k c within own)

  -- the other chunks stay
  pub chunk_unchanged : (d : ℕ) → d ≢ c → chunk_at changed d ≡ chunk_at s d
  chunk_unchanged d other = get_or-set_other s.chunks c d (record (chunk_at s c) { head = h }) no_chunk other

  -- the chunk stands at the entry's place, with its generation
  standing_changed : standing changed c ≡ (target e, (subject e).generation)
  standing_changed = ap (λ (j : ℕ). stands_in (class_at changed j) c) (class_of_changed c
      ∙ owner s o.tiles k c within own)
      ∙ (ap (λ x. stands_in x c) class_changed ∙ stands_pushed (class_at s k) e c is)

  -- the other chunks stand where they stood
  pub standing_unchanged : (d : ℕ) → d ≢ c → standing changed d ≡ standing s d
  standing_unchanged d other = ap (λ (j : ℕ). stands_in (class_at changed j) d) (class_of_changed d)
      ∙ by (ℕ_discrete (class_of s d) k)
    where
      by : Dec (class_of s d ≡ k) → stands_in (class_at changed (class_of s d)) d
          ≡ stands_in (class_at s (class_of s d)) d
      by (yes same) = ap (λ (j : ℕ). stands_in (class_at changed j) d) same
          ∙ (ap (λ x. stands_in x d) class_changed
          ∙ (stands_not_pushed (class_at s k) e d (λ q. other (sym q ∙ is))
          ∙ ap (λ (j : ℕ). stands_in (class_at s j) d) (sym same)))
      by (no differs) = ap (λ x. stands_in x d) (class_unchanged (class_of s d) differs)

  -- the chunk is at the entry's place
  place_changed : place changed c ≡ target e
  place_changed = ap (λ (at : Standing). at.0) standing_changed

  -- the other chunks are at theirs
  pub place_unchanged : (d : ℕ) → d ≢ c → place changed d ≡ place s d
  place_unchanged d other = ap (λ (at : Standing). at.0) (standing_unchanged d other)

  module _ (same_holds : (g : ℕ) → held_by (record (chunk_at s c) { head = h }) g ≡ held_by (chunk_at s c) g) where
    -- each life has its holds
    holds_changed : (l : ItemId) → holds_of changed l ≡ holds_of s l
    holds_changed l = by (ℕ_discrete l.chunk c)
      where
        by : Dec (l.chunk ≡ c) → held_by (chunk_at changed l.chunk) l.generation
            ≡ held_by (chunk_at s l.chunk) l.generation
        by (yes same) = ap (λ (d : ℕ). held_by (chunk_at changed d) l.generation) same
            ∙ (ap (λ x. held_by x l.generation) chunk_changed
            ∙ (same_holds l.generation
            ∙ ap (λ (d : ℕ). held_by (chunk_at s d) l.generation) (sym same)))
        by (no differs) = ap (λ x. held_by x l.generation) (chunk_unchanged l.chunk differs)

    -- and its references
    references_changed : (d g : ℕ) → references changed d g ≡ references s d g
    references_changed d g = ap (λ (n : ℕ). n + total (bumps_of (life d g)) s.workers) (holds_changed (life d g))

    -- Where the chunk is lawful with its new head at its new place, the workers fit, and histories and lanes agree on
    -- moves, the World is lawful with the entry and the workers.
    pub change_among : (ws : List WorkerState) → WorkersFit s c ws
        → Lawful s.refs_limit h (target e) (references s c) (first_hits_of s c)
        → (subject e).generation ≡ h.generation
        → is_stray e ≡ false
        → ((j v n : ℕ) (test : ItemId → Bool) → how_many (is_move_for test v n) (class_at changed j).history
        ≡ moves_told (is_of_class s j test) n (slice_index_or ws v new_worker).applied
        (slice_index_or ws v new_worker).lane)
        → IsLawful (record (with_change (with_head s c h) k e) { workers = ws })
    change_among ws fit law generation straight moves = record {
      limit = o.limit;
      tiles = subst (λ (n : ℕ). Tiles 0 changed.classes n) (sym (length-set s.chunks c (record (chunk_at s c) {
        head = h;
      })))
          (tiles_kept 0 s.classes (length s.chunks) k (class_with_change (class_at s k) e) refl refl o.tiles);
      chunks = λ d. relawful s.refs_limit (head_at changed d) (place changed d) (references changed d)
          (first_hits_of s d) (chunk_law d (ℕ_discrete d c)) (references after d) (first_hits_of after d)
          (λ g. omega (arith, fit.bumps (life d g)))
          (λ g. fit.hits (life d g));
      hands = λ l. omega (arith, o.hands l, fit.hands l, holds_changed l);
      generations = λ d. generation_law d (ℕ_discrete d c);
      classes = λ j in_range. class_law j (omega (arith, length-set s.classes k (class_with_change (class_at s k) e)))
          (ℕ_discrete j k);
      workers = fit.workers;
      alone = λ v w l m v_in w_in v_on w_on same. fit.alone v w l m v_in w_in v_on w_on
          (sym (class_of_changed l.chunk) ∙ (same ∙ class_of_changed m.chunk));
      waits = λ w w_in. wait_law (slice_index_or ws w new_worker).lane (fit.waits w w_in) (fit.free w w_in);
      moves = λ j v n test. moves j v n test ∙ told_same (is_of_class s j test) (is_of_class changed j test)
          (λ l. ap (λ (d : ℕ). (d == j) && test l) (sym (class_of_changed l.chunk))) n
          (slice_index_or ws v new_worker).applied (slice_index_or ws v new_worker).lane;
      gone = λ w w_in l some. omega (
        arith,
        fit.gone w w_in l some,
        counted_changed (is_unlink_of l) (class_of s l.chunk),
        ap (λ (j : ℕ). how_many (is_unlink_of l) (class_at changed j).history) (class_of_changed l.chunk),
      );
    }
      where
        after : State
        after = record changed { workers = ws }

        chunk_law : (d : ℕ) → Dec (d ≡ c) → Lawful s.refs_limit (head_at changed d) (place changed d)
            (references changed d) (first_hits_of s d)
        chunk_law d (yes same) = subst (λ (d : ℕ). Lawful s.refs_limit (head_at changed d) (place changed d)
            (references changed d) (first_hits_of s d)) (sym same)
            (lawful_same s.refs_limit h (head_at changed c) (target e) (place changed c) (references s c)
            (references changed c) (first_hits_of s c) (ap (λ x. x.head) chunk_changed) place_changed
            (references_changed c) law)
        chunk_law d (no differs) = lawful_same s.refs_limit (head_at s d) (head_at changed d) (place s d)
            (place changed d) (references s d) (references changed d) (first_hits_of s d)
            (ap (λ x. x.head) (chunk_unchanged d differs)) (place_unchanged d differs) (references_changed d)
            (o.chunks d)

        generation_law : (d : ℕ) → Dec (d ≡ c) → (standing changed d).1 ≡ (head_at changed d).generation
        generation_law d (yes same) = subst (λ (d : ℕ). (standing changed d).1 ≡ (head_at changed d).generation)
            (sym same)
            (ap (λ (at : Standing). at.1) standing_changed
            ∙ (generation ∙ sym (ap (λ x. x.head.generation) chunk_changed)))
        generation_law d (no differs) = ap (λ (at : Standing). at.1) (standing_unchanged d differs) ∙ (o.generations d
            ∙ sym (ap (λ x. x.head.generation) (chunk_unchanged d differs)))

        class_law : (j : ℕ) → j < length s.classes → Dec (j ≡ k) → IsClass (class_at changed j)
        class_law j in_range (yes same) = subst IsClass (sym (ap (class_at changed) same ∙ class_changed))
            (class_pushed (class_at s k) e (o.classes k within) (ap (owns (class_at s k)) is ∙ own) straight)
        class_law j in_range (no differs) = subst IsClass (sym (class_unchanged j differs)) (o.classes j in_range)

        wait_law : (x : LaneStage) → WaitsToMove s x → ((b : Bump) → x ≡ lane.Cleared b true → b.life.chunk ≢ c)
            → WaitsToMove changed x
        wait_law lane.Empty waits free_of = tt
        wait_law (lane.Carrying b) waits free_of = tt
        wait_law (lane.Tried b) waits free_of = tt
        wait_law (lane.Cleared b true) waits free_of = let same : head_at changed b.life.chunk
            ≡ head_at s b.life.chunk = ap (λ x. x.head) (chunk_unchanged b.life.chunk (free_of b refl)) in
            (ap (λ x. x.linked) same ∙ waits.0, ap (λ x. x.segment) same ∙ waits.1)
        wait_law (lane.Cleared b false) waits free_of = tt
        wait_law (lane.Moved b) waits free_of = tt

    -- the same where the workers stay, no lane waits to move the item, and the entry names no bump
    pub change_lawful : Lawful s.refs_limit h (target e) (references s c) (first_hits_of s c)
        → (subject e).generation ≡ h.generation
        → names_bump e ≡ false
        → ((w : ℕ) → w < length s.workers → (b : Bump) → (worker_at s w).lane ≡ lane.Cleared b true → b.life.chunk ≢ c)
        → IsLawful (with_change (with_head s c h) k e)
    change_lawful law generation plain free = change_among s.workers
        (record {
          bumps = λ l. refl;
          hits = λ l. refl;
          hands = λ l.
              omega arith;
          workers = o.workers;
          alone = o.alone;
          waits = o.waits;
          free = free;
          gone = o.gone;
        })
        law generation (no_stray e plain)
        (λ j v n test. omega (
          arith,
          o.moves j v n test,
          counted_changed (is_move_for test v n) j,
          ap bit (and_right (k == j) (is_move_for test v n e) (no_move test v n e plain)),
        ))
