-- What a sweep enters into the history of a class.
use Rattle.std.specs.Prelude.{ℕ, List}
use Rattle.bump_rules.specs.declared.history.Change.{Change}
use Rattle.bump_rules.specs.Sweeps.{swept_of}
use Rattle.model_state.specs.State.{State, head_at, class_at}

-- what a sweep of a class enters, by its DYING
abbrev pub sweep_of : State → ℕ → List Change
sweep_of state class = swept_of (head_at state) (class_at state class).lists.dying
