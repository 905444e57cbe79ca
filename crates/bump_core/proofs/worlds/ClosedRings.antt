-- A ring that was closed stays closed, and accepts nothing.
use Rattle.std.proofs.Common.{◌≡◌, ℕ, ◌&&◌, not, true, false, List, [], ◌∷◌, ◌++◌, take, drop, take-append-drop, Some, refl, sym, ap, ◌∙◌, subst, nat_lt}
use Rattle.std.specs.Prelude.{is_some}
use Rattle.std.proofs.lemmas.Bool.{and_parts, both_ways}
use Rattle.std.proofs.lemmas.List.{get_or-set_other}
use native.Mathlib.Decide.{ℕ_discrete}
use Rattle.bump_rules.specs.declared.events.Event.{Event}
use Rattle.bump_rules.specs.declared.events.Event.TheVariants as event
use Rattle.bump_rules.specs.declared.places.Start.TheVariants as start
use Rattle.model_state.specs.Events.{is_enabled, after, next_chunk, next_bump, ending, waiting, reserve, drop_refs, drop_busy, push, drop_full, unmark, with_label, with_time, link, take_bump, clear_for, move_for, alight}
use Rattle.bump_rules.specs.Lanes.{carried, tried, applied_now, cleared_active}
use Rattle.bump_core.specs.Headline.{ClosedStay, ClosedStayFrom}
use Rattle.bump_core.specs.Runs.{run_of}
use Rattle.model_state.specs.State.{State, WorkerState, head_at, worker_at, new_worker, with_worker, is_worker, is_open}
use Rattle.bump_rules.specs.Hands.{tried_life, life_in_hand, cleared_life}
use Rattle.bump_rules.specs.Tables.{is_cold}
use Rattle.model_state.proofs.Enabled.{close_from, by_test, by_value}
use Rattle.bump_core.proofs.events.Runs.{by_run, run_parts}
use Rattle.bump_rules.proofs.Updates.{same_read}

-- Rings.

-- no ring changed
closed_here : (s : State) → ClosedStay s s
closed_here s w closed = (closed, refl)

-- from a state to a later one, and from there to one later still
closed_on : (s t u : State) → ClosedStay s t → ClosedStay t u → ClosedStay s u
closed_on s t u first second w closed = let a = first w closed in let b = second w a.0 in (b.0, b.1 ∙ a.1)

-- one worker changed, and not its ring
closed_worked : (s : State) (w : ℕ) (y : WorkerState) → y.is_open ≡ (worker_at s w).is_open → y.sent
    ≡ (worker_at s w).sent → ClosedStay s (with_worker s w y)
closed_worked s w y opens sents v closed = (
  same_read (λ (x : WorkerState). x.is_open) s.workers w y new_worker opens v ∙ closed,
  same_read (λ (x : WorkerState). x.sent) s.workers w y new_worker sents v,
)

-- one worker changed, whose ring was open
closed_else : (s : State) (w : ℕ) (y : WorkerState) → (worker_at s w).is_open ≡ true → ClosedStay s (with_worker s w y)
closed_else s w y opened v closed = by (ℕ_discrete v w)
  where
    by : Dec (v ≡ w) → ((worker_at (with_worker s w y) v).is_open ≡ false) × ((worker_at (with_worker s w y) v).sent
        ≡ (worker_at s v).sent)
    by (yes is) = absurd (both_ways (worker_at s w).is_open (sym (ap (λ (u : ℕ). (worker_at s u).is_open) is)
        ∙ closed) opened)
    by (no other) = let there = get_or-set_other s.workers w v y new_worker other in
        (ap (λ (x : WorkerState). x.is_open) there ∙ closed, ap (λ (x : WorkerState). x.sent) there)

-- no event that is enabled opens a closed ring, or sends a bump by it
closed_after : (s : State) (e : Event) → is_enabled s e ≡ true → ClosedStay s (after s e)
closed_after s (event.Load c) enabled = closed_here s
closed_after s (event.Take w l) enabled = closed_here s
closed_after s (event.Fetch w l) enabled = by_test (ClosedStay s) (head_at s l.chunk).fetched _ _
    (λ on. closed_here s) (λ off. closed_worked s w _ refl refl)
closed_after s (event.Mark w l) enabled = by_test (ClosedStay s) (not (head_at s l.chunk).active && is_cold
    (head_at s l.chunk).segment) _ _ (λ on. closed_worked s w _ refl refl) (λ off. closed_here s)
closed_after s (event.Reserve w) enabled = by_value (ClosedStay s) (reserve s w) (tried_life (worker_at s w).hand) s
    (λ l is. closed_worked s w _ refl refl) (closed_here s)
closed_after s (event.DropRefs w) enabled = by_value (ClosedStay s) (drop_refs s w)
    (tried_life (worker_at s w).hand) s (λ l is. closed_worked s w _ refl refl) (closed_here s)
closed_after s (event.DropBusy w) enabled = by_value (ClosedStay s) (drop_busy s w)
    (tried_life (worker_at s w).hand) s (λ l is. closed_worked s w _ refl refl) (closed_here s)
closed_after s (event.Push w) enabled = by_value (ClosedStay s) (push s w) (life_in_hand (worker_at s w).hand) s
    (λ l is. closed_else s w _ (and_parts (is_worker s w) (worker_at s w).is_open (and_parts (is_open s w)
    (is_some (life_in_hand (worker_at s w).hand) && nat_lt (waiting (worker_at s w)) s.capacity) enabled).0).1)
    (closed_here s)
closed_after s (event.DropFull w) enabled = by_value (ClosedStay s) (drop_full s w)
    (life_in_hand (worker_at s w).hand) s (λ l is. closed_worked s w _ refl refl) (closed_here s)
closed_after s (event.Unmark w) enabled = by_value (ClosedStay s) (unmark s w) (cleared_life (worker_at s w).hand) s
    (λ l is. closed_worked s w _ refl refl) (closed_here s)
closed_after s (event.Close w) enabled = closed_else s w _ (close_from s w enabled).1
closed_after s (event.StoreTime l t) enabled = closed_here s
closed_after s (event.Release l) enabled = closed_here s
closed_after s (event.PutLabel k x) enabled = by_value (ClosedStay s) (λ c. with_label s c x) (next_chunk s k) s
    (λ c is. closed_here s) (closed_here s)
closed_after s (event.PutTime k t) enabled = by_value (ClosedStay s) (λ c. with_time s c t) (next_chunk s k) s
    (λ c is. closed_here s) (closed_here s)
closed_after s (event.Link k) enabled = by_value (ClosedStay s) (link s start.Hot k) (next_chunk s k) s
    (λ c is. closed_here s) (closed_here s)
closed_after s (event.LinkTemp k) enabled = by_value (ClosedStay s) (link s start.Temp k) (next_chunk s k) s
    (λ c is. closed_here s) (closed_here s)
closed_after s (event.Unlink l) enabled = closed_here s
closed_after s (event.Sweep c) enabled = closed_here s
closed_after s (event.ClearActive c) enabled = closed_here s
closed_after s (event.Move c to) enabled = closed_here s
closed_after s (event.TakeBump w) enabled = by_value (ClosedStay s) (take_bump s w) (next_bump (worker_at s w)) s
    (λ l is. closed_worked s w _ refl refl) (closed_here s)
closed_after s (event.Try w) enabled = by_value (ClosedStay s) _ (carried (worker_at s w).lane) s
    (λ b is. closed_worked s w _ refl refl) (closed_here s)
closed_after s (event.BumpTime w t) enabled = by_value (ClosedStay s) _ (applied_now (worker_at s w).lane) s
    (λ b is. closed_here s) (closed_here s)
closed_after s (event.ClearFor w) enabled = by_value (ClosedStay s) (clear_for s w) (tried (worker_at s w).lane) s
    (λ b is. closed_worked s w _ refl refl) (closed_here s)
closed_after s (event.MoveFor w) enabled = by_value (ClosedStay s) (move_for s w) (cleared_active
    (worker_at s w).lane) s (λ b is. closed_worked s w _ refl refl) (closed_here s)
closed_after s (event.Alight w) enabled = by_value (ClosedStay s) (alight s w) (ending s w) s
    (λ a is. closed_worked s w _ refl refl) (closed_here s)

-- Runs.

-- a run opens no closed ring, and sends no bump by one
pub closed_stay : (s : State) (es : List Event) (t : State) → run_of s es ≡ Some t → ClosedStay s t
closed_stay s es t ends = by_run (ClosedStay s) (λ u stay e enabled. closed_on s u (after u e) stay
    (closed_after u e enabled)) s es t (closed_here s) ends

-- what ran behind the first events of a run, runs from the state that they left
run_rest : (s : State) (es fs : List Event) (t u : State) → run_of s (es ++ fs) ≡ Some u → run_of s es ≡ Some t
    → run_of t fs ≡ Some u
run_rest s [] fs t u all first = let same : s ≡ t = cc in subst (λ (x : State). run_of x fs ≡ Some u) same all
run_rest s (e ∷ es) fs t u all first = let whole = run_parts s e (es ++ fs) u all in
    let part = run_parts s e es t first in run_rest (after s e) es fs t u whole.1 part.1

-- so no ring that is closed at a moment of the run takes a bump from then on
pub closed_from : (s : State) (es : List Event) (u : State) → run_of s es ≡ Some u → ClosedStayFrom s es u
closed_from s es u ends i t first = closed_stay t (drop i es) u (run_rest s (take i es) (drop i es) t u (ap (run_of s)
    (take-append-drop i es) ∙ ends) first)
