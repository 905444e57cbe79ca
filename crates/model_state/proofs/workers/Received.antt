-- What a lane receives next.
use Rattle.std.proofs.Common.{◌≡◌, ℕ, zero, suc, ◌<◌, List, [], ◌∷◌, ◌++◌, ◌+◌, take, add-one, length, get_or, refl, sym, ap, ◌∙◌, arith}
use Rattle.std.specs.Prelude.{Some, slice_get}
use Rattle.std.proofs.lemmas.List.{get_or-map}
use Rattle.bump_rules.specs.declared.items.ItemId.{ItemId}
use Rattle.model_state.specs.declared.workers.Worker.{Worker}
use Rattle.model_state.specs.Events.{next_bump}
use Rattle.model_state.specs.State.{new_worker}
use Rattle.model_state.specs.Workers.{worker_view, worker_view_at}

-- the element behind the first n is in the list, and the first n + 1 are these and it
pub next_taken : {A : Type 0} (xs : List A) (n : ℕ) (x : A) → slice_get xs (length (take n xs)) ≡ Some x
    → (n < length xs) × (length (take n xs) ≡ n) × (take (suc n) xs ≡ take n xs ++ x ∷ [])
next_taken [] n x is = absurd (let u : ⊥ = cc in u)
next_taken (y ∷ ys) zero x is = let same : y ≡ x = cc in (omega arith, refl, ap (λ z. z ∷ []) same)
next_taken {A = A} (y ∷ ys) (suc n) x is = let rest = next_taken ys n x is in (
  omega (arith, rest.0),
  omega (arith, rest.1),
  ap (λ (r : List A). y ∷ r) rest.2,
)

-- a worker as it is read, where the next bump waits: how many its lane took, and what it took with that bump
pub next_received : (xs : List Worker) (w : ℕ) (a : Worker) (l : ItemId) → w < length xs → a ≡ get_or xs w a
    → next_bump (worker_view_at xs w) ≡ Some l
    → (length (worker_view_at xs w).received ≡ a.received) × (worker_view_at xs w ≡ worker_view a)
    × (take (a.received + 1) a.sent.items ≡ take a.received a.sent.items ++ l ∷ [])
next_received xs w a l within is next =
    let worker_views : worker_view_at xs w ≡ worker_view a = get_or-map worker_view xs w a new_worker within
    ∙ ap worker_view (sym is) in
    let taken = next_taken a.sent.items a.received l (ap next_bump (sym worker_views) ∙ next) in (
      ap (λ v. length v.received) worker_views ∙ taken.1,
      worker_views,
      ap (λ (n : ℕ). take n a.sent.items)
          (add-one a.received) ∙ taken.2,
    )
