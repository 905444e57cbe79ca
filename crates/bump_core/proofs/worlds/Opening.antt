-- A new World is lawful.
use Rattle.std.proofs.Common.{◌≡◌, ℕ, zero, suc, ◌+◌, ◌-◌, ◌<◌, ◌≤◌, Bool, true, false, cond, List, [], ◌∷◌, length, get_or, refl, sym, ap, ◌∙◌, subst, arith, ◌⊎◌, inl, inr}
use Rattle.std.specs.Prelude.{◌==◌, replicate, is_none}
use Rattle.std.proofs.lemmas.Bool.{cases_lt}
use Rattle.std.proofs.lemmas.List.{length-replicate, get_or_past}
use Rattle.bump_rules.specs.declared.configs.ClassConfig.{ClassConfig}
use Rattle.bump_rules.specs.declared.configs.Config.{Config}
use Rattle.model_state.specs.declared.chunks.Chunk.{Chunk}
use Rattle.bump_rules.specs.declared.places.Place.TheVariants.{Unused}
use Rattle.bump_rules.specs.Totals.{total, how_many}
use Rattle.bump_rules.specs.Entries.{is_move_for, is_told_gone, moves_told}
use Rattle.bump_rules.specs.Configs.{chunks_of, first_fault_within, HaveChunks, most_chunks, most_classes, most_workers, wide_most}
use Rattle.bump_rules.proofs.Bounds.{bounds}
use Rattle.bump_core.proofs.NewClasses.{classes_long}
use Rattle.bump_rules.specs.Lists.{opening}
use Rattle.bump_rules.specs.Heads.{fresh_head}
use Rattle.bump_rules.specs.Lawful.{Lawful}
use Rattle.bump_rules.specs.History.{standing_from}
use Rattle.bump_rules.specs.Lives.{life, count_of}
use Rattle.model_state.specs.Rings.{IsWorker}
use Rattle.model_state.specs.State.{State, ClassState, WorkerState, head_at, class_at, no_chunk, no_class, new_worker, class_of}
use Rattle.bump_rules.specs.Lanes.{applied_life}
use Rattle.bump_rules.specs.Hands.{is_on}
use Rattle.model_state.specs.Opening.{fresh_chunk, classes_from, new_state}
use Rattle.model_state.specs.Worlds.{IsLawful, IsClass, Tiles, references, first_hits_of, holds_of, bumps_of, standing, place, WaitsToMove, is_of_class}
use Rattle.model_state.proofs.Tiles.{class_within, class_out}
use Rattle.bump_core.proofs.worlds.StaysLawful.{WorldKeeps}

-- the classes of a new World stand one behind the other
tiles_new : (fresh from : ℕ) (ks : List ClassConfig) → HaveChunks ks → Tiles from (classes_from fresh from ks)
    (from + chunks_of ks)
tiles_new fresh from [] all = omega arith
tiles_new fresh from (k ∷ ks) all = (
  refl,
  omega (arith, all.0),
  subst (λ (n : ℕ). Tiles (from + k.chunks) (classes_from fresh (from + k.chunks) ks) n) (omega arith)
      (tiles_new fresh (from + k.chunks) ks all.1),
)

-- each class of a new World has no history, and its lists are those at the start
class_new : (fresh from : ℕ) (ks : List ClassConfig) (k : ℕ)
    → IsClass (get_or (classes_from fresh from ks) k no_class)
    × ((get_or (classes_from fresh from ks) k no_class).history ≡ [])
class_new fresh from [] k = (record { lists = refl; entries = tt; causes = refl }, refl)
class_new fresh from (c ∷ cs) zero = (
  record { lists = ap (opening from) (omega arith); entries = tt; causes = refl },
  refl,
)
class_new fresh from (c ∷ cs) (suc k) = class_new fresh (from + c.chunks) cs k

-- each class of a new World has fresh chunks of this generation
class_fresh : (g from : ℕ) (ks : List ClassConfig) (k : ℕ) → k < length (classes_from g from ks)
    → (get_or (classes_from g from ks) k no_class).fresh ≡ g
class_fresh g from [] k within = absurd (omega arith)
class_fresh g from (c ∷ cs) zero within = refl
class_fresh g from (c ∷ cs) (suc k) within = class_fresh g (from + c.chunks) cs k (omega arith)

-- a chunk of a new World that there is has this generation
chunk_fresh : (n g c : ℕ) → c < n → (get_or (replicate n (fresh_chunk g)) c no_chunk).head.generation ≡ g
chunk_fresh zero g c within = absurd (omega arith)
chunk_fresh (suc n) g zero within = refl
chunk_fresh (suc n) g (suc c) within = chunk_fresh n g c (omega arith)

-- a worker of a new World is new
worker_new : (n w : ℕ) → get_or (replicate n new_worker) w new_worker ≡ new_worker
worker_new zero w = refl
worker_new (suc n) zero = refl
worker_new (suc n) (suc w) = worker_new n w

-- a chunk of a new World is fresh
chunk_new : (n g c : ℕ) → g < 4294967295 → (h : ℕ) × (h < 4294967295)
    × (get_or (replicate n (fresh_chunk g)) c no_chunk ≡ fresh_chunk h)
chunk_new zero g c few = (0, omega arith, refl)
chunk_new (suc n) g zero few = (g, few, refl)
chunk_new (suc n) g (suc c) few = chunk_new n g c few

-- a sum over new workers, where one of them counts nothing
none_of : (f : WorkerState → ℕ) (n : ℕ) → f new_worker ≡ 0 → total f (replicate n new_worker) ≡ 0
none_of f zero e = refl
none_of f (suc n) e = omega (arith, e, none_of f n e)

-- a test between a number and itself
cond_same : (b : Bool) (n : ℕ) → cond b n n ≡ n
cond_same true n = refl
cond_same false n = refl

-- a chunk before its first life is lawful in UNUSED, without references and first hits
pub fresh_lawful : (limit h : ℕ) (r x : ℕ → ℕ) → h < 4294967295 → ((g : ℕ) → r g ≡ 0) → ((g : ℕ) → x g ≡ 0)
    → Lawful limit (fresh_head h) Unused r x
fresh_lawful limit h r x few no_r no_x = record {
  counted = omega (arith, no_r h);
  within = omega arith;
  generation = omega (arith, few);
  shown = (refl, few);
  used = λ g some. absurd (omega (arith, no_r g));
  active = omega arith;
  fetched = no_x h;
  once = λ g. omega (arith, no_x g);
  past = λ g some. absurd (omega (arith, no_x g));
}

-- no worker of a new World has done anything
new_is_worker : (capacity : ℕ) → IsWorker capacity new_worker
new_is_worker capacity = record {
  ring = record {
    prefix = refl;
    room = omega arith;
  };
  applied = refl;
  accounts = record {
    accepted = refl;
    attempted = omega arith;
    most = omega arith;
  };
}

module _ (config : Config) (early : config.first_generation < 4294967296) (two : 2 ≤ config.refs_limit)
    (all : HaveChunks config.classes)
    (few_classes : length config.classes ≤ most_classes) (few_chunks : chunks_of config.classes ≤ most_chunks)
    (few_workers : config.workers ≤ most_workers) where
  -- the new World
  abbrev s : State
  s = new_state config

  -- no life has references
  references_new : (c g : ℕ) → references s c g ≡ 0
  references_new c g = let fresh = chunk_new (chunks_of config.classes) (config.first_generation - 1) c (omega (
    arith,
    early,
  )) in
      let held : holds_of s (life c g) ≡ 0 = ap (λ (x : Chunk). cond (x.head.generation == g) x.holds 0) fresh.2
      ∙ cond_same (fresh.0 == g) 0 in
      omega (arith, held, none_of (bumps_of (life c g)) config.workers refl)

  -- each chunk is lawful
  law : (c : ℕ) → Lawful s.refs_limit (head_at s c) (place s c) (references s c) (first_hits_of s c)
  law c = let fresh = chunk_new (chunks_of config.classes) (config.first_generation - 1) c (omega (arith, early)) in
      subst (λ h. Lawful s.refs_limit h (place s c) (references s c) (first_hits_of s c))
      (sym (ap (λ (x : Chunk). x.head) fresh.2))
      (subst (λ p. Lawful s.refs_limit (fresh_head fresh.0) p (references s c) (first_hits_of s c))
      (sym (ap (λ es. (standing_from c (Unused, (class_at s (class_of s c)).fresh) es).0)
      (class_new (config.first_generation - 1) 0 config.classes (class_of s c)).1))
      (fresh_lawful s.refs_limit fresh.0 (references s c) (first_hits_of s c) fresh.1 (references_new c)
      (λ g. none_of (λ x. count_of (life c g) x.first_hits) config.workers refl)))

  -- the classes have the chunks, one after another
  tiles : Tiles 0 s.classes (length s.chunks)
  tiles = subst (λ (n : ℕ). Tiles 0 s.classes n) (omega (
    arith,
    length-replicate (chunks_of config.classes)
        (fresh_chunk (config.first_generation - 1)),
  )) (tiles_new (config.first_generation - 1) 0 config.classes all)

  -- where no entry speaks of a chunk it stands as its class began
  began : (c : ℕ) → (standing s c).1 ≡ (class_at s (class_of s c)).fresh
  began c = ap (λ es. (standing_from c (Unused, (class_at s (class_of s c)).fresh) es).1)
      (class_new (config.first_generation - 1) 0 config.classes (class_of s c)).1

  -- each chunk stands in its generation
  generation : (c : ℕ) → (standing s c).1 ≡ (head_at s c).generation
  generation c = began c ∙ by (cases_lt c (length s.chunks))
    where
      by : (c < length s.chunks) ⊎ (length s.chunks ≤ c) → (class_at s (class_of s c)).fresh ≡ (head_at s c).generation
      by (inl within) = class_fresh (config.first_generation - 1) 0 config.classes (class_of s c)
          (class_within s tiles c within)
          ∙ sym (chunk_fresh (chunks_of config.classes) (config.first_generation - 1) c (omega (
            arith,
            length-replicate (chunks_of config.classes) (fresh_chunk (config.first_generation - 1)),
          )))
      by (inr past) = ap (λ (k : ClassState). k.fresh) (get_or_past s.classes (class_of s c) no_class (omega (
        arith,
        class_out s tiles c past,
      )))
          ∙ sym (ap (λ (x : Chunk). x.head.generation) (get_or_past s.chunks c no_chunk past))

  -- and so is the World
  lawful : IsLawful s
  lawful = record {
    limit = omega (arith, two);
    tiles = tiles;
    chunks = law;
    hands = λ l. omega (arith, none_of (λ w. is_on l w.hand) config.workers refl);
    generations = generation;
    classes = λ k within. (class_new (config.first_generation - 1) 0 config.classes k).0;
    workers = λ w within. subst (IsWorker s.capacity) (sym (worker_new config.workers w)) (new_is_worker s.capacity);
    alone = λ v w l m v_in w_in of_v of_w same. absurd (let u : ⊥ = cc (ap (λ x. applied_life x.lane)
        (worker_new config.workers v)) in u);
    waits = λ w within. subst (λ x. WaitsToMove s x.lane) (sym (worker_new config.workers w)) tt;
    moves = λ k w n test. ap (how_many (is_move_for test w n))
        (class_new (config.first_generation - 1) 0 config.classes k).1
        ∙ sym (ap (λ x. moves_told (is_of_class s k test) n x.applied x.lane) (worker_new config.workers w));
    gone = λ w within l some. absurd (omega (
      arith,
      some,
      ap (λ x. how_many (is_told_gone l) x.applied)
          (worker_new config.workers w),
    ));
  }

  -- a new World keeps what a World keeps
  pub keeps_new : WorldKeeps s
  keeps_new = (
    lawful,
    record {
      classes = omega (arith, few_classes, classes_long (config.first_generation - 1) 0 config.classes);
      chunks = omega (
        arith,
        few_chunks,
        length-replicate (chunks_of config.classes)
            (fresh_chunk (config.first_generation - 1)),
      );
      workers = omega (arith, few_workers, length-replicate config.workers new_worker);
    },
  )

-- a World made from a configuration without faults does
pub keeps_valid : (config : Config) → config.first_generation < 4294967296
    → is_none (first_fault_within wide_most config.workers config.capacity config.refs_limit config.first_generation config.classes)
    ≡ true → WorldKeeps (new_state config)
keeps_valid config early valid =
    let b = bounds config.workers config.capacity config.refs_limit config.first_generation config.classes valid in
    keeps_new config early b.limit_least b.chunks_each b.classes_most b.chunks_most b.workers_most
