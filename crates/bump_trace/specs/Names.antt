-- What names are bound to: the names of items, and those of holds.
use Rattle.std.specs.Prelude.{ℕ, List, Option, Some, None, if◌then◌else◌}
use Rattle.std.specs.Str.{bytes_eq}
use Rattle.bump_rules.specs.declared.items.ItemId.{ItemId}

-- what each name is bound to
abbrev pub Names : Type 0
Names = List ℕ → Option ItemId

-- no name is bound
abbrev pub no_names : Names
no_names name = None

-- the last binding of a name wins
abbrev pub bind : List ℕ → ItemId → Names → Names
bind name id names other = if bytes_eq name other then Some id else names other

-- the name is bound no more
abbrev pub unbind : List ℕ → Names → Names
unbind name names other = if bytes_eq name other then None else names other
