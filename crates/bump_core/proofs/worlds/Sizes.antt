-- No event makes or takes away chunks, classes or workers.
use Rattle.std.proofs.Common.{◌≡◌, ℕ, List, Some, Result, Err, refl, ◌∙◌}
use Rattle.std.proofs.lemmas.List.{length-set}
use Rattle.model_state.specs.declared.chunks.Chunk.{Chunk}
use Rattle.bump_rules.specs.declared.places.Segment.TheVariants as segment
use Rattle.bump_rules.specs.declared.places.Start.TheVariants as start
use Rattle.bump_rules.specs.declared.history.Cause.TheVariants.{Pull, Bump as BumpOf}
use Rattle.bump_rules.specs.declared.history.Change.{Change}
use Rattle.bump_rules.specs.declared.history.Change.TheVariants as change
use Rattle.bump_rules.specs.declared.events.Event.{Event}
use Rattle.bump_rules.specs.declared.events.Event.TheVariants as event
use Rattle.bump_rules.specs.declared.events.Reply.{Reply}
use Rattle.bump_rules.specs.declared.events.Refused.{Refused}
use Rattle.bump_rules.specs.Lives.{life}
use Rattle.model_state.specs.State.{State, ClassState, WorkerState, SameSizes, class_at, head_at, worker_at, with_chunk, with_class, with_worker, with_change, class_with_change}
use Rattle.bump_rules.specs.Hands.{tried_life, life_in_hand, cleared_life}
use Rattle.model_state.specs.Events.{Steps, after, reserve, drop_refs, drop_busy, push, drop_full, unmark, with_label, with_time, link, take_bump, clear_for, move_for, alight, next_chunk, next_life, next_bump, ending}
use Rattle.bump_rules.specs.Lanes.{carried, applied_now, tried, cleared_active}
use Rattle.bump_core.specs.Runs.{run_of}
use Rattle.model_state.proofs.Enabled.{by_test, by_value}
use Rattle.bump_core.proofs.events.Runs.{by_step, by_run, refused_stays}

-- a changed chunk
chunk_sizes : (s : State) (c : ℕ) (x : Chunk) → SameSizes s (with_chunk s c x)
chunk_sizes s c x = (length-set s.chunks c x, refl, refl)

-- a changed worker
worker_sizes : (s : State) (w : ℕ) (x : WorkerState) → SameSizes s (with_worker s w x)
worker_sizes s w x = (refl, refl, length-set s.workers w x)

-- a changed class
class_sizes : (s : State) (k : ℕ) (x : ClassState) → SameSizes s (with_class s k x)
class_sizes s k x = (refl, length-set s.classes k x, refl)

-- a changed chunk and a changed worker
both_sizes : (s : State) (c w : ℕ) (x : Chunk) (y : WorkerState) → SameSizes s (with_worker (with_chunk s c x) w y)
both_sizes s c w x y = (length-set s.chunks c x, refl, length-set s.workers w y)

-- a changed chunk and an entry of a class
change_sizes : (s : State) (c k : ℕ) (x : Chunk) (e : Change) → SameSizes s (with_change (with_chunk s c x) k e)
change_sizes s c k x e = (length-set s.chunks c x, length-set s.classes k (class_with_change (class_at s k) e), refl)

-- a changed chunk, an entry of a class and a changed worker
all_sizes : (s : State) (c k w : ℕ) (x : Chunk) (e : Change) (y : WorkerState)
    → SameSizes s (with_worker (with_change (with_chunk s c x) k e) w y)
all_sizes s c k w x e y = (
  length-set s.chunks c x,
  length-set s.classes k (class_with_change (class_at s k) e),
  length-set s.workers w y,
)

-- an event leaves the sizes
pub after_sizes : (s : State) (e : Event) → SameSizes s (after s e)
after_sizes s (event.Load c) = (refl, refl, refl)
after_sizes s (event.Take w l) = chunk_sizes s _ _
after_sizes s (event.Fetch w l) = by_test (SameSizes s) _ _ _ (λ on. chunk_sizes s _ _) (λ off. both_sizes s _ w _ _)
after_sizes s (event.Mark w l) = by_test (SameSizes s) _ _ _ (λ on. both_sizes s _ w _ _) (λ off. chunk_sizes s _ _)
after_sizes s (event.Reserve w) = by_value (SameSizes s) (reserve s w) (tried_life (worker_at s w).hand) s
    (λ l is. both_sizes s _ w _ _) (refl, refl, refl)
after_sizes s (event.DropRefs w) = by_value (SameSizes s) (drop_refs s w) (tried_life (worker_at s w).hand) s
    (λ l is. worker_sizes s w _) (refl, refl, refl)
after_sizes s (event.DropBusy w) = by_value (SameSizes s) (drop_busy s w) (tried_life (worker_at s w).hand) s
    (λ l is. worker_sizes s w _) (refl, refl, refl)
after_sizes s (event.Push w) = by_value (SameSizes s) (push s w) (life_in_hand (worker_at s w).hand) s
    (λ l is. worker_sizes s w _) (refl, refl, refl)
after_sizes s (event.DropFull w) = by_value (SameSizes s) (drop_full s w) (life_in_hand (worker_at s w).hand) s
    (λ l is. both_sizes s _ w _ _) (refl, refl, refl)
after_sizes s (event.Unmark w) = by_value (SameSizes s) (unmark s w) (cleared_life (worker_at s w).hand) s
    (λ l is. both_sizes s _ w _ _) (refl, refl, refl)
after_sizes s (event.Close w) = worker_sizes s w _
after_sizes s (event.StoreTime l t) = chunk_sizes s _ _
after_sizes s (event.Release l) = chunk_sizes s _ _
after_sizes s (event.PutLabel k x) = by_value (SameSizes s) (λ c. with_label s c x) (next_chunk s k) s
    (λ c is. chunk_sizes s c _) (refl, refl, refl)
after_sizes s (event.PutTime k t) = by_value (SameSizes s) (λ c. with_time s c t) (next_chunk s k) s
    (λ c is. chunk_sizes s c _) (refl, refl, refl)
after_sizes s (event.Link k) = by_value (SameSizes s) (link s start.Hot k) (next_chunk s k) s
    (λ c is. change_sizes s c k _ (change.Linked (next_life s c))) (refl, refl, refl)
after_sizes s (event.LinkTemp k) = by_value (SameSizes s) (link s start.Temp k) (next_chunk s k) s
    (λ c is. change_sizes s c k _ (change.LinkedTemp (next_life s c))) (refl, refl, refl)
after_sizes s (event.Unlink l) = change_sizes s l.chunk _ _ (change.Unlinked l)
after_sizes s (event.Sweep c) = class_sizes s _ _
after_sizes s (event.ClearActive c) = chunk_sizes s _ _
after_sizes s (event.Move c to) = change_sizes s c _ _ (change.Moved (life c (head_at s c).generation)
    (head_at s c).segment to Pull)
after_sizes s (event.TakeBump w) = by_value (SameSizes s) (take_bump s w) (next_bump (worker_at s w)) s
    (λ l is. worker_sizes s w _) (refl, refl, refl)
after_sizes s (event.Try w) = by_value (SameSizes s) _ (carried (worker_at s w).lane) s (λ b is. worker_sizes s w _)
    (refl, refl, refl)
after_sizes s (event.BumpTime w t) = by_value (SameSizes s) _ (applied_now (worker_at s w).lane) s
    (λ b is. chunk_sizes s _ _) (refl, refl, refl)
after_sizes s (event.ClearFor w) = by_value (SameSizes s) (clear_for s w) (tried (worker_at s w).lane) s
    (λ b is. both_sizes s _ w _ _) (refl, refl, refl)
after_sizes s (event.MoveFor w) = by_value (SameSizes s) (move_for s w) (cleared_active (worker_at s w).lane) s
    (λ b is. all_sizes s _ _ w _ (change.Moved b.life segment.Cold segment.Warm (BumpOf w b.number)) _) (
      refl,
      refl,
      refl,
    )
after_sizes s (event.Alight w) = by_value (SameSizes s) (alight s w) (ending s w) s (λ a is. both_sizes s _ w _ _)
    (refl, refl, refl)

-- so does a run
pub run_sizes : (s : State) (es : List Event) (t : State) → run_of s es ≡ Some t → SameSizes s t
run_sizes s es t ends = by_run (SameSizes s) (λ u sizes e enabled. let one = after_sizes u e in
    (one.0 ∙ sizes.0, one.1 ∙ sizes.1, one.2 ∙ sizes.2)) s es t (refl, refl, refl) ends

-- so does a step
pub step_sizes : (old : State) (e : Event) (new : State) (r : Result Reply Refused) → Steps old e new r
    → SameSizes old new
step_sizes old e new r made = by_step (SameSizes old) old e new r (refl, refl, refl) (λ enabled. after_sizes old e) made

-- and a run that ends with a refused event
pub refused_sizes : (old : State) (es : List Event) (t : State) (e : Event) (new : State) (r : Refused)
    → run_of old es ≡ Some t → Steps t e new (Err r) → SameSizes old new
refused_sizes old es t e new r ends refused = run_sizes old es new (refused_stays old es t e new r ends refused)
