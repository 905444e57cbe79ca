-- Chunks at which a sweep looks that stops early.
use Rattle.std.proofs.Common.{ℕ, zero, suc, ◌<◌, List, [], ◌∷◌, if◌then◌else◌, subst, arith}
use mathlib.Core.Logic.{dite}
use native.Mathlib.Decide.{ℕ_discrete}
use Rattle.bump_links.specs.Lists.{times}
use Rattle.bump_rules.specs.declared.items.Head.{Head}
use Rattle.bump_rules.specs.Tables.{is_unheld}
use Rattle.bump_rules.proofs.PlainLists.{times_same, times_other, times_rest}
use Rattle.bump_class.specs.Sweeps.{up_to}

-- they stand in the list
pub up_to_within : (n : ℕ) (heads : ℕ → Head) (xs : List ℕ) (c : ℕ) → 0 < times c (up_to n heads xs) → 0 < times c xs
up_to_within zero heads xs c some = absurd (let no : ⊥ = omega (arith, some) in no)
up_to_within (suc n) heads [] c some = absurd (let no : ⊥ = omega (arith, some) in no)
up_to_within (suc n) heads (x ∷ xs) c some = dite (ℕ_discrete x c)
    (λ e. omega (arith, times_same c x xs e))
    (λ ne. omega (
      arith,
      times_rest c x xs,
      up_to_within (if is_unheld (heads x) then n else suc n) heads xs c
          (subst (λ k. 0 < k) (times_other c x (up_to (if is_unheld (heads x) then n else suc n) heads xs) ne) some),
    ))
