-- Steps and runs by their events: what each event that is enabled leaves, a step and a run leave.
use Rattle.std.proofs.Common.{◌≡◌, ◌<◌, ◌+◌, length, ℕ, Bool, true, false, List, [], ◌∷◌, ◌++◌, take, Some, None, Result, Ok, Err, if◌then◌else◌, refl, sym, ap, ◌∙◌, subst}
use Rattle.std.specs.Prelude.{slice_get, slice_index_or}
use Rattle.std.proofs.lemmas.Bool.{cond-true}
use Rattle.std.proofs.lemmas.List.{take_more}
use Rattle.bump_rules.specs.declared.events.Event.{Event}
use Rattle.bump_rules.specs.declared.events.Reply.{Reply}
use Rattle.bump_rules.specs.declared.events.Refused.{Refused}
use Rattle.bump_rules.specs.declared.events.Refused.TheVariants.{NotEnabled, OutOfMemory}
use Rattle.bump_core.specs.Runs.{Runs, run_of, made_by}
use Rattle.model_state.specs.State.{State}
use Rattle.model_state.specs.Events.{Steps, is_enabled, asks_for_memory, after}

-- an enabled event, and then the others
pub run_step : (s t : State) (e : Event) (es : List Event) → is_enabled s e ≡ true → after s e ≡ t → run_of s (e ∷ es)
    ≡ run_of t es
run_step s t e es enabled is = cond-true (is_enabled s e) (run_of (after s e) es) None enabled
    ∙ ap (λ u. run_of u es) is

-- the first event of a run is enabled, and the others run from the state after it
pub run_parts : (s : State) (e : Event) (es : List Event) (t : State) → run_of s (e ∷ es) ≡ Some t → (is_enabled s e
    ≡ true) × (run_of (after s e) es ≡ Some t)
run_parts s e es t ends = by (is_enabled s e) refl
  where
    by : (b : Bool) → is_enabled s e ≡ b → (is_enabled s e ≡ true) × (run_of (after s e) es ≡ Some t)
    by true enabled = (enabled, sym (ap (λ b. if b then run_of (after s e) es else None) enabled) ∙ ends)
    by false refused = absurd (let u : ⊥ = cc (sym (ap (λ b. if b then run_of (after s e) es else None) refused)
        ∙ ends) in u)

-- a run, and one event more
pub run_push : (s : State) (es : List Event) (t : State) (e : Event) → run_of s es ≡ Some t → is_enabled t e ≡ true
    → run_of s (es ++ e ∷ []) ≡ Some (after t e)
run_push s [] t e ends enabled = let same : s ≡ t = cc in run_step s (after s e) e [] (ap (λ x. is_enabled x e) same
    ∙ enabled) refl ∙ ap (λ x. Some (after x e)) same
run_push s (d ∷ es) t e ends enabled = let inside = run_parts s d es t ends in
    run_step s (after s d) d (es ++ e ∷ []) inside.0 refl ∙ run_push (after s d) es t e inside.1 enabled

-- a run of the first events, and the one behind them
pub run_more : (s : State) (es : List Event) (n : ℕ) (d : Event) (t new : State) → n < length es
    → run_of s (take n es) ≡ Some t → is_enabled t (slice_index_or es n d) ≡ true → new
    ≡ after t (slice_index_or es n d) → run_of s (take (n + 1) es) ≡ Some new
run_more s es n d t new within ends enabled made = ap (run_of s) (take_more es n d within)
    ∙ run_push s (take n es) t (slice_index_or es n d) ends enabled ∙ ap (λ x. Some x) (sym made)

-- a step that is refused changes nothing
pub refused_same : (t : State) (e : Event) (new : State) (r : Refused) → Steps t e new (Err r) → new ≡ t
refused_same t e new r refused = refused.unchanged

-- what is refused for want of memory asks for some
pub wanting_asks : (asks : Bool) → (asks ≡ false → OutOfMemory ≡ NotEnabled) → asks ≡ true
wanting_asks true never = refl
wanting_asks false never = absurd (let u : ⊥ = cc (never refl) in u)

-- a run up to its first refusal
pub run_refused : (old : State) (es : List Event) (n : ℕ) (t new : State) (e : Event) (r : Refused)
    → run_of old (take n es) ≡ Some t → slice_get es n ≡ Some e → Steps t e new (Err r) → (asks_for_memory t e ≡ false
    → r ≡ NotEnabled) → Runs old es new (Err (n, r))
run_refused old es n t new e NotEnabled ends at refused memory = (
  ends ∙ ap (λ x. Some x) (sym refused.unchanged),
  e,
  at,
  ap (λ x. is_enabled x e) refused.unchanged ∙ refused.enabled,
)
run_refused old es n t new e OutOfMemory ends at refused memory = (
  ends ∙ ap (λ x. Some x) (sym refused.unchanged),
  e,
  at,
  ap (λ x. is_enabled x e) refused.unchanged ∙ refused.enabled,
  ap (λ x. asks_for_memory x e) refused.unchanged
      ∙ wanting_asks (asks_for_memory t e) memory,
)

-- a step that is refused behind a run: the state is still the one that the run left
pub refused_stays : (s : State) (es : List Event) (t : State) (e : Event) (new : State) (r : Refused) → run_of s es
    ≡ Some t → Steps t e new (Err r) → run_of s es ≡ Some new
refused_stays s es t e new r ends refused = ends ∙ ap (λ x. Some x) (sym (refused_same t e new r refused))

-- what holds before a step, and after its event where that is enabled, holds after the step
pub by_step : (P : State → Type 0) (old : State) (e : Event) (new : State) (r : Result Reply Refused) → P old
    → (is_enabled old e ≡ true → P (after old e)) → Steps old e new r → P new
by_step P old e new (Ok reply) before behind made = subst P (sym made.state) (behind made.enabled)
by_step P old e new (Err r) before behind refused = subst P (sym (refused_same old e new r refused)) before

-- what each event that is enabled keeps, a run keeps
pub by_run : (P : State → Type 0) → ((s : State) → P s → (e : Event) → is_enabled s e ≡ true → P (after s e))
    → (s : State) (es : List Event) (t : State) → P s → run_of s es ≡ Some t → P t
by_run P kept s [] t p ends = let same : s ≡ t = cc in subst P same p
by_run P kept s (e ∷ es) t p ends = let inside = run_parts s e es t ends in
    by_run P kept (after s e) es t (kept s p e inside.0) inside.1

-- a step leaves the state that the events that it made leave
pub step_runs : (old : State) (e : Event) (new : State) (r : Result Reply Refused) → Steps old e new r
    → run_of old (made_by (e ∷ []) r) ≡ Some new
step_runs old e new (Ok reply) made = run_step old new e [] made.enabled (sym made.state)
step_runs old e new (Err r) refused = ap (λ (x : State). Some x) (sym (refused_same old e new r refused))
