-- A maintainer's pass: the lanes that it drained so far.
use Rattle.std.proofs.Common.{◌≡◌, ℕ, zero, suc, ◌<◌, List, [], ◌∷◌, length, refl, sym, ap, subst, arith}
use Rattle.std.specs.Prelude.{slice_index_or, slice_set, slice_get, Some}
use Rattle.bump_store.specs.Lanes.{LaneState}
use Rattle.bump_store.specs.Passes.{IsDrained, AllDrained}

-- the first so many lanes were drained once each, and the others are as they were
abbrev pub DrainedSoFar : ℕ → ℕ → List LaneState → List LaneState → Type 0
DrainedSoFar now zero befores afters = afters ≡ befores
DrainedSoFar now (suc count) [] afters = afters ≡ []
DrainedSoFar now (suc count) (before ∷ befores) [] = ⊥
DrainedSoFar now (suc count) (before ∷ befores) (after ∷ afters) =
    IsDrained now before after × DrainedSoFar now count befores afters

-- one more was
pub one_more : (now count : ℕ) (befores afters : List LaneState) (drained none : LaneState)
    → DrainedSoFar now count befores afters → count < length befores
    → IsDrained now (slice_index_or afters count none) drained
    → DrainedSoFar now (suc count) befores (slice_set afters count drained)
one_more now zero [] afters drained none so_far low one = absurd (omega (arith, low))
one_more now zero (before ∷ befores) afters drained none so_far low one =
    subst (λ ls. DrainedSoFar now 1 (before ∷ befores) (slice_set ls 0 drained)) (sym so_far)
    (subst (λ ls. IsDrained now (slice_index_or ls 0 none) drained) so_far one, refl)
one_more now (suc count) [] afters drained none so_far low one = absurd (omega (arith, low))
one_more now (suc count) (before ∷ befores) [] drained none so_far low one = absurd so_far
one_more now (suc count) (before ∷ befores) (after ∷ afters) drained none so_far low one =
    (so_far.0, one_more now count befores afters drained none so_far.1 (omega (arith, low)) one)

-- there are as many lanes as before
pub as_many : (now count : ℕ) (befores afters : List LaneState) → DrainedSoFar now count befores afters
    → length afters ≡ length befores
as_many now zero befores afters so_far = ap length so_far
as_many now (suc count) [] afters so_far = ap length so_far
as_many now (suc count) (before ∷ befores) [] so_far = absurd so_far
as_many now (suc count) (before ∷ befores) (after ∷ afters) so_far =
    ap suc (as_many now count befores afters so_far.1)

-- where as many were as there are, each was
each_was : (now : ℕ) (befores afters : List LaneState) → DrainedSoFar now (length befores) befores afters
    → (worker : ℕ) (before after : LaneState) → slice_get befores worker ≡ Some before
    → slice_get afters worker ≡ Some after → IsDrained now before after
each_was now [] afters so_far worker before after was is = absurd (cc was)
each_was now (first ∷ befores) [] so_far worker before after was is = absurd so_far
each_was now (first ∷ befores) (left ∷ afters) so_far zero before after was is =
    let same : first ≡ before = cc was in
    let same_after : left ≡ after = cc is in
    subst (λ x. IsDrained now x after) same (subst (λ x. IsDrained now first x) same_after so_far.0)
each_was now (first ∷ befores) (left ∷ afters) so_far (suc worker) before after was is =
    each_was now befores afters so_far.1 worker before after was is

pub all_were : (now : ℕ) (befores afters : List LaneState) → DrainedSoFar now (length befores) befores afters
    → AllDrained now befores afters
all_were now befores afters so_far =
    record { as_many = as_many now (length befores) befores afters so_far; each = each_was now befores afters so_far }
