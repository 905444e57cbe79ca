-- A state in which a chunk, all classes and a worker are others: what is read there, and
-- changes of the same chunk and worker.
use Rattle.std.proofs.Common.{◌≡◌, ℕ, ◌<◌, true, List, length, slice_set, sym, ap, ap₂, ◌∙◌, arith}
use Rattle.std.proofs.lemmas.Bool.{lt-ltb}
use Rattle.std.proofs.lemmas.List.{get_or-set_same, length-set, set-get_or, set-set}
use Rattle.model_state.specs.declared.chunks.Chunk.{Chunk}
use Rattle.model_state.specs.State.{State, ClassState, WorkerState, chunk_at, worker_at, no_chunk, new_worker, with_chunk, with_worker, is_worker}

-- a chunk that was written, and is written again by what it became
pub chunk_again : (s : State) (c : ℕ) (x : Chunk) (f : Chunk → Chunk) → c < length s.chunks
    → with_chunk (with_chunk s c x) c (f (chunk_at (with_chunk s c x) c)) ≡ with_chunk s c (f x)
chunk_again s c x f within = ap (λ xs. record s { chunks = xs })
    (set-set s.chunks c x (f (chunk_at (with_chunk s c x) c))
    ∙ ap (λ z. slice_set s.chunks c (f z)) (get_or-set_same s.chunks c x no_chunk within))

-- a state in which a chunk, all classes and a worker are others
abbrev pub at : State → ℕ → ℕ → List ClassState → Chunk → WorkerState → State
at s c w ks x y = record s { chunks = slice_set s.chunks c x; classes = ks; workers = slice_set s.workers w y }

-- a state is itself with its own chunk, classes and worker
pub at_start : (s : State) (c w : ℕ) → s ≡ at s c w s.classes (chunk_at s c) (worker_at s w)
at_start s c w = λ i. record s {
  chunks = sym (set-get_or s.chunks c no_chunk) i;
  workers = sym
      (set-get_or s.workers w new_worker) i;
}

module _ (s : State) (c w : ℕ) (c_in : c < length s.chunks) (w_in : w < length s.workers) (ks : List ClassState)
    (x : Chunk) (y : WorkerState) where
  -- the chunk is read
  pub chunk_reads : chunk_at (at s c w ks x y) c ≡ x
  chunk_reads = get_or-set_same s.chunks c x no_chunk c_in

  -- the worker is read
  pub worker_reads : worker_at (at s c w ks x y) w ≡ y
  worker_reads = get_or-set_same s.workers w y new_worker w_in

  -- the worker exists
  pub is_worker_there : is_worker (at s c w ks x y) w ≡ true
  is_worker_there = lt-ltb w _ (omega (arith, length-set s.workers w y))

  -- a change of the chunk
  pub on_chunk : (f : Chunk → Chunk) → with_chunk (at s c w ks x y) c (f (chunk_at (at s c w ks x y) c))
      ≡ at s c w ks (f x) y
  on_chunk f = ap (λ xs. record s { chunks = xs; classes = ks; workers = slice_set s.workers w y })
      (set-set s.chunks c x (f (chunk_at (at s c w ks x y) c)) ∙ ap (λ z. slice_set s.chunks c (f z)) chunk_reads)

  -- a change of the worker
  pub on_worker : (g : WorkerState → WorkerState) → with_worker (at s c w ks x y) w
      (g (worker_at (at s c w ks x y) w)) ≡ at s c w ks x (g y)
  on_worker g = ap (λ xs. record s { chunks = slice_set s.chunks c x; classes = ks; workers = xs })
      (set-set s.workers w y (g (worker_at (at s c w ks x y) w)) ∙ ap (λ z. slice_set s.workers w (g z)) worker_reads)

  -- a change of both
  pub on_both : (f : Chunk → Chunk) (g : Chunk → WorkerState → WorkerState)
      → with_worker (with_chunk (at s c w ks x y) c (f (chunk_at (at s c w ks x y) c))) w
      (g (chunk_at (at s c w ks x y) c) (worker_at (at s c w ks x y) w)) ≡ at s c w ks (f x) (g x y)
  on_both f g = ap (λ t. with_worker t w (g (chunk_at (at s c w ks x y) c) (worker_at (at s c w ks x y) w)))
      (on_chunk f)
      ∙ ap (λ xs. record s { chunks = slice_set s.chunks c (f x); classes = ks; workers = xs }) (set-set s.workers w y
      (g (chunk_at (at s c w ks x y) c) (worker_at (at s c w ks x y) w))
      ∙ ap₂ (λ a b. slice_set s.workers w (g a b)) chunk_reads worker_reads)
