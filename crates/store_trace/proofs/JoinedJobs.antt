-- What came back of threads, taken together.
use Rattle.std.proofs.Common.{◌≡◌, ℕ, zero, suc, ◌≤◌, Bool, true, false, ◌||◌, List, [], ◌∷◌, ◌++◌, length, map, Option, Some, refl, sym, ap, ◌∙◌, subst, arith}
use Rattle.std.specs.List.{AllZip, All, fold, list_any}
use Rattle.std.proofs.lemmas.List.{map-append}
use Rattle.std.proofs.lemmas.List.Elements.{All-head, All-tail}
use Rattle.bump_rules.specs.declared.configs.Config.{Config}
use Rattle.bump_store.specs.Lanes.{LaneState}
use Rattle.bump_store.specs.Passes.{IsDrained}
use Rattle.bump_unlocked.specs.Workers.{WorkerState}
use Rattle.store_trace.specs.Jobs.{WorkerMade, IsJobOf, Came, AreJobsOf, with_lines, IsSumOf, AllCame, WorkersMade, DrainerMade, drainer_lanes, drainer_shares, shares_of}
use Rattle.store_trace.specs.Making.{WereMade}
use Rattle.store_trace.specs.Tasks.{MakesEach, drain_times, lines_of}
use Rattle.store_trace.specs.Totals.{both_totals, no_lines}
use Rattle.store_trace.specs.declared.jobs.DrainerThread.{DrainerThread}
use Rattle.store_trace.specs.declared.jobs.Job.{Job}
use Rattle.store_trace.specs.declared.jobs.Job.TheVariants.{Runs, Done}
use Rattle.store_trace.specs.declared.jobs.JoinedWorker.{JoinedWorker}
use Rattle.store_trace.specs.declared.slots.Slot.{Slot}
use Rattle.store_trace.specs.declared.tasks.ChoreTask.{ChoreTask}
use Rattle.store_trace.specs.declared.tasks.GetTask.{GetTask}
use Rattle.store_trace.specs.declared.tasks.Share.TheVariants as shares
use Rattle.store_trace.specs.declared.totals.Totals.{Totals}
use Rattle.store_trace.proofs.InTurn.{SoFar, so_far_next, zip_through}

-- a fold over a list with one more behind it
fold_push : {A B : Type 0} (f : B → A → B) (a : B) (xs : List A) (x : A) → fold f a (xs ++ x ∷ []) ≡ f (fold f a xs) x
fold_push f a [] x = refl
fold_push f a (y ∷ xs) x = fold_push f (f a y) xs x

-- a test of one more
or_false : (b : Bool) → (b || false) ≡ b
or_false true = refl
or_false false = refl

or_assoc : (a b c : Bool) → (a || (b || c)) ≡ ((a || b) || c)
or_assoc true b c = refl
or_assoc false b c = refl

any_push : {A : Type 0} (p : A → Bool) (xs : List A) (x : A) → list_any p (xs ++ x ∷ []) ≡ (list_any p xs || p x)
any_push p [] x = or_false (p x)
any_push p (y ∷ xs) x = ap (λ (b : Bool). p y || b) (any_push p xs x) ∙ or_assoc (p y) (list_any p xs) (p x)

module _ {N : Type 0} where
  -- those that came back so far, and those that are still to come
  abbrev pub CameSoFar : List (Job N) → List (Job N) → List (Slot N) → Totals → Bool → Type 0
  CameSoFar jobs rest slots totals is_stopped = (all : List (JoinedWorker N)) × SoFar Came jobs rest all × IsSumOf all slots totals is_stopped

  pub came_next : (jobs rest left : List (Job N)) (slots more : List (Slot N)) (totals : Totals) (is_stopped : Bool) (job : Job N) (joined : JoinedWorker N)
      → rest ≡ job ∷ left → more ≡ slots ++ joined.slot ∷ [] → CameSoFar jobs rest slots totals is_stopped → Came job joined
      → CameSoFar jobs left more (both_totals totals joined.totals) (is_stopped || joined.is_stopped)
  came_next jobs rest left slots more totals is_stopped job joined next is_more so_far came =
      let all = so_far.0 in (
        all ++ joined ∷ [],
        so_far_next Came jobs rest left all (all ++ joined ∷ []) job joined next refl so_far.1 came,
        (
          is_more ∙ ap (λ (xs : List (Slot N)). xs ++ joined.slot ∷ []) so_far.2.0 ∙ sym (map-append (λ (j : JoinedWorker N). j.slot) all (joined ∷ [])),
          ap (λ (t : Totals). both_totals t joined.totals) so_far.2.1
              ∙ sym (fold_push (λ (t : Totals) (j : JoinedWorker N). both_totals t j.totals) no_lines all joined),
          ap (λ (b : Bool). b || joined.is_stopped) so_far.2.2 ∙ sym (any_push (λ (j : JoinedWorker N). j.is_stopped) all joined),
        ),
      )

  -- what came of a job came of the worker's lines
  made_of : (config : Config) (slot : Slot N) (tasks : List GetTask) (job : Job N) (joined : JoinedWorker N) → IsJobOf config slot tasks job → Came job joined
      → WorkerMade config slot.worker tasks joined
  made_of config slot tasks (Runs running) joined is came =
      subst (λ (w : Option WorkerState). WorkerMade config w tasks joined) (sym is.0)
      (subst (λ (ts : List GetTask). WorkerMade config (Some running.handle.promise.worker.value) ts joined) is.1
      (subst (λ (k : Config). WorkerMade k (Some running.handle.promise.worker.value) running.handle.promise.tasks.value.items joined) is.2 came))
  made_of config slot tasks (Done same lines) joined is came =
      subst (λ (w : Option WorkerState). WorkerMade config w tasks joined) (sym is.0) (
        ap (λ (s : Slot N). s.worker) came.0 ∙ is.1,
        came.1 ∙ ap (λ (ts : List GetTask). record no_lines { closed = length ts }) is.2,
        came.2,
      )

  pub workers_made : (config : Config) (befores : List (Slot N)) (gets : List (List GetTask)) (jobs : List (Job N)) (slots : List (Slot N))
      (totals : Totals) (is_stopped : Bool) → AreJobsOf config befores gets jobs → AllCame jobs slots totals is_stopped
      → WorkersMade config befores gets slots totals is_stopped
  workers_made config befores gets jobs slots totals is_stopped are came = (
    came.0,
    zip_through (λ one job. IsJobOf config one.0 one.1 job) Came (λ one joined. WorkerMade config one.0.worker one.1 joined)
        (λ one job joined is back. made_of config one.0 one.1 job joined is back) (with_lines befores gets) jobs came.0 are came.1,
    came.2,
  )

  -- ---- drainers

  -- all of them have these lines on this store
  abbrev HasLines : Config → List ChoreTask → DrainerThread N → Type 0
  HasLines config tasks drainer =
      (drainer.handle.promise.store.value ≡ config) × (drainer.handle.promise.tasks.value.items ≡ tasks)

  abbrev HaveLines : Config → List ChoreTask → List (DrainerThread N) → Type 0
  HaveLines config tasks drainers = All (HasLines config tasks) drainers

  -- the lanes of each group were drained at these lines
  pub groups_drained : {B : Type 0} (items : B → List LaneState) (config : Config) (tasks : List ChoreTask) (drainers : List (DrainerThread N)) (groups : List B)
      → HaveLines config tasks drainers → AllZip (λ drainer group. DrainerMade drainer (items group)) drainers groups
      → AllZip (AllZip (MakesEach IsDrained (drain_times tasks))) (drainer_lanes drainers) (map items groups)
  groups_drained items config tasks [] [] have made = tt
  groups_drained items config tasks [] (g ∷ groups) have made = absurd made
  groups_drained items config tasks (d ∷ drainers) [] have made = absurd made
  groups_drained items config tasks (d ∷ drainers) (g ∷ groups) have made = (
    subst (λ (ts : List ChoreTask). AllZip (MakesEach IsDrained (drain_times ts)) d.handle.promise.lanes.value.items (items g)) (All-head (HasLines config tasks) d drainers have).1 made.0.0,
    groups_drained items config tasks drainers groups (All-tail (HasLines config tasks) d drainers have) made.1,
  )

  -- the first one, which is the maintenance thread, made all of them
  pub lines_made : {B : Type 0} (items : B → List LaneState) (config : Config) (tasks : List ChoreTask) (count : ℕ) (drainers : List (DrainerThread N)) (groups : List B)
      → 1 ≤ count → drainer_shares drainers ≡ shares_of count → HaveLines config tasks drainers
      → AllZip (λ drainer group. DrainerMade drainer (items group)) drainers groups → WereMade config (lines_of shares.All tasks)
  lines_made items config tasks zero drainers groups some same have made = absurd (omega (arith, some))
  lines_made items config tasks (suc count) [] groups some same have made = absurd (cc same)
  lines_made items config tasks (suc count) (d ∷ drainers) [] some same have made = absurd made
  lines_made items config tasks (suc count) (d ∷ drainers) (g ∷ groups) some same have made =
      let share : d.handle.promise.share ≡ shares.All = cc same in
      subst (λ s. WereMade config (lines_of s tasks)) share
      (subst (λ (ts : List ChoreTask). WereMade config (lines_of d.handle.promise.share ts)) (All-head (HasLines config tasks) d drainers have).1
      (subst (λ (k : Config). WereMade k (lines_of d.handle.promise.share d.handle.promise.tasks.value.items)) (All-head (HasLines config tasks) d drainers have).0 made.0.1))
