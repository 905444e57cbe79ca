-- Which share each drainer has.
use Rattle.std.proofs.Common.{◌≡◌, ℕ, zero, suc, [], ◌∷◌, ◌++◌, refl, ap}
use Rattle.std.specs.Prelude.{replicate}
use Rattle.store_trace.specs.Jobs.{shares_of}
use Rattle.store_trace.specs.declared.tasks.Share.{Share}
use Rattle.store_trace.specs.declared.tasks.Share.TheVariants as shares

-- the share of the next drainer, behind so many
abbrev pub next_share : ℕ → Share
next_share zero = shares.All
next_share (suc count) = shares.Drains

-- one more of the same
replicate_push : {A : Type 0} (n : ℕ) (x : A) → replicate (suc n) x ≡ replicate n x ++ x ∷ []
replicate_push zero x = refl
replicate_push (suc n) x = ap (λ xs. x ∷ xs) (replicate_push n x)

-- a drainer more
pub shares_push : (count : ℕ) → shares_of (suc count) ≡ shares_of count ++ next_share count ∷ []
shares_push zero = refl
shares_push (suc count) = ap (λ xs. shares.All ∷ xs) (replicate_push count shares.Drains)
