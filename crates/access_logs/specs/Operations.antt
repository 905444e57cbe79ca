-- What is asked for at an access.
use Rattle.std.specs.Prelude.{ℕ, Bool, List, ◌||◌, codes, if◌then◌else◌}
use Rattle.std.specs.Str.{bytes_eq}
use Rattle.access_logs.specs.declared.operations.Operation.{Operation}
use Rattle.access_logs.specs.declared.operations.Operation.TheVariants.{Get, Set, Delete, Other}

-- a field names an operation that asks for a value
abbrev pub is_get : List ℕ → Bool
is_get word = bytes_eq word (codes "get") || bytes_eq word (codes "gets")

-- a field names an operation that stores
abbrev pub is_set : List ℕ → Bool
is_set word =
    bytes_eq word (codes "set") || bytes_eq word (codes "add") || bytes_eq word (codes "replace")
    || bytes_eq word (codes "cas") || bytes_eq word (codes "append") || bytes_eq word (codes "prepend")

-- the operation that a field names
abbrev pub operation_of : List ℕ → Operation
operation_of word =
    if is_get word then Get
    else if is_set word then Set
    else if bytes_eq word (codes "delete") then Delete
    else Other
