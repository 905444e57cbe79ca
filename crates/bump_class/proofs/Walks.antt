-- What an iterator over a list gave until it ended.
use Rattle.std.proofs.Common.{◌≡◌, ℕ, List, refl, sym, ◌∙◌, map-id}
use Rattle.std.specs.Iterator.{Drains, YieldsFirst}
use Rattle.std.proofs.lemmas.Iterator.{items_from_drains}
use Rattle.std.proofs.lemmas.Iterator.Consumers.{YieldsList-from_first}

-- one that gives the first of what is left gave all when it has ended
pub gave_all : (all xs : List ℕ) → Drains (YieldsFirst {A = ℕ} (λ (s : List ℕ). s)) all xs → xs ≡ all
gave_all all xs drained =
    sym (map-id xs)
    ∙ items_from_drains xs (drained.1.0, drained.1.1, λ _. (drained.0, drained.1.2)) (YieldsList-from_first (λ x. x) (λ s. s) all refl)
