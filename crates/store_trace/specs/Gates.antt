-- A worker's lines at a gate, one after another.
use Rattle.std.specs.Prelude.{◌<◌, ℕ, Bool, true}

-- Its first lines, so many, were each let pass, and the gate was told of each.
abbrev pub PassedFirst : (ℕ → Bool → Type 0) → (ℕ → Type 0) → ℕ → Type 0
PassedFirst lets sees count = (call : ℕ) → call < count → lets call true × sees call
