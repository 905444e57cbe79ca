-- Text that is whole lines.
use Rattle.std.specs.Prelude.{◌≡◌, ◌⊎◌, ℕ, List, [], ◌++◌, codes}

-- its last byte is a line feed
abbrev pub IsEnded : List ℕ → Type 0
IsEnded text = (before : List ℕ) × (text ≡ before ++ codes "\n")

-- nothing, or a text whose last byte is a line feed
abbrev pub IsLines : List ℕ → Type 0
IsLines text = (text ≡ []) ⊎ IsEnded text
