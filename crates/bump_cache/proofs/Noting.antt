-- What a call did under the lock, told of the states that its log notes.
use Rattle.std.proofs.Common.{◌≡◌, Result, IfErr, IfOk, ap, subst}
use Rattle.cache_shelf.specs.Shelves.{ShelfView}
use Rattle.bump_cache.specs.States.{PartState}

-- states that are the same have the same shelf
pub same_shelf : {one other : PartState} → one ≡ other → one.shelf ≡ other.shelf
same_shelf same = ap (λ (state : PartState). state.shelf) same

-- a fact of two shelves is one of two that equal them
pub of_both : (Fact : ShelfView → ShelfView → Type 0) (before after from to : ShelfView) → before ≡ from → after ≡ to
    → Fact before after → Fact from to
of_both Fact before after from to same_before same_after fact =
    subst (λ state. Fact state to) same_before (subst (λ state. Fact before state) same_after fact)

-- what a call did that lay between two states, where it answered
pub ok_noted : {A B : Type 0} (told : Result A B) (Did : A → ShelfView → ShelfView → Type 0)
    (before after from to : ShelfView) → before ≡ from → after ≡ to → IfOk told (λ a. Did a before after)
    → IfOk told (λ a. Did a from to)
ok_noted told Did = of_both (λ one other. IfOk told (λ a. Did a one other))

-- and where it was refused
pub err_noted : {A B : Type 0} (told : Result A B) (Did : B → ShelfView → ShelfView → Type 0)
    (before after from to : ShelfView) → before ≡ from → after ≡ to → IfErr told (λ b. Did b before after)
    → IfErr told (λ b. Did b from to)
err_noted told Did = of_both (λ one other. IfErr told (λ b. Did b one other))
