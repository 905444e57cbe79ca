-- A sweep by its counts: it enters something, and asks for memory, where nobody holds one of its chunks.
use Rattle.std.proofs.Common.{rules, ◌≡◌, ℕ, ◌<◌, true, false, List, [], ◌∷◌, length, refl, arith}
use Rattle.std.specs.List.{list_any}
use Rattle.bump_rules.specs.declared.items.Head.{Head}
use Rattle.bump_rules.specs.Tables.{is_unheld}
use Rattle.bump_rules.specs.declared.history.Change.{Change}
use Rattle.model_state.specs.State.{State, with_changes}
use Rattle.bump_core.specs.Runs.{one_asks}
use Rattle.bump_core.specs.Commands.{looks_at}
use Rattle.bump_core.proofs.commands.ChangedLists.{no_changes}
use Rattle.bump_rules.specs.Sweeps.{swept_of}

-- a sweep that enters something finds a chunk that nobody holds
pub some_unheld : (heads : ℕ → Head) (cs : List ℕ) → 0 < length (swept_of heads cs)
    → list_any (λ c. is_unheld (heads c)) cs ≡ true
some_unheld heads [] some = absurd (omega arith)
some_unheld heads (c ∷ cs) some = search (rules, some_unheld heads cs)

-- one that enters nothing finds none
pub none_unheld : (heads : ℕ → Head) (cs : List ℕ) → length (swept_of heads cs) ≡ 0
    → list_any (λ c. is_unheld (heads c)) cs ≡ false
none_unheld heads [] none = refl
none_unheld heads (c ∷ cs) none = search (rules, none_unheld heads cs)

-- a sweep asks where nobody holds one of its chunks
pub looks_ask : (heads : ℕ → Head) (cs : List ℕ) (s : State) → list_any (λ c. is_unheld (heads c)) cs ≡ true
    → one_asks s (looks_at heads cs) ≡ true
looks_ask heads [] s some = absurd (let u : ⊥ = cc in u)
looks_ask heads (c ∷ cs) s some = search (rules, looks_ask heads cs s)

-- no entries change nothing
pub nothing_swept : (s : State) (k : ℕ) (es : List Change) → length es ≡ 0 → with_changes s k es ≡ s
nothing_swept s k [] none = no_changes s k
nothing_swept s k (e ∷ es) none = absurd (omega (arith, none))
