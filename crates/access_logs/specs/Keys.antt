-- How keys are numbered: each by its place among the distinct keys, in the order in which they first come.
use Rattle.std.specs.Prelude.{ℕ, Bool, List, [], ◌∷◌, ◌++◌, map, fold, bytes_eq, if◌then◌else◌}
use Rattle.std.specs.List.{list_any, position_or_len}
use Rattle.access_logs.specs.declared.keys.Key.{Key}

-- the bytes of a key
abbrev pub bytes_of : Key → List ℕ
bytes_of key = key.bytes.items

-- the key is one of these
abbrev pub is_among : List (List ℕ) → List ℕ → Bool
is_among keys key = list_any (bytes_eq key) keys

-- the keys with one more, at their end if it is new
abbrev pub with_key : List (List ℕ) → List ℕ → List (List ℕ)
with_key keys key = if is_among keys key then keys else keys ++ key ∷ []

-- the distinct keys, in the order in which they first come
abbrev pub distinct : List (List ℕ) → List (List ℕ)
distinct keys = fold with_key [] keys

-- how many of the keys come before this one
abbrev pub number_among : List (List ℕ) → List ℕ → ℕ
number_among keys key = position_or_len (bytes_eq key) keys

-- the number of each key: its place among the distinct keys
abbrev pub numbers_of : List (List ℕ) → List ℕ
numbers_of keys = map (number_among (distinct keys)) keys
