-- Keys that are strings of bytes, and strings that no key can be.
use Rattle.std.specs.Prelude.{ℕ, List, length}
use Rattle.packed_words.specs.Strings.{HasRoom}

-- where keys of w words have room for this string, this holds
abbrev pub IfRoom : ℕ → List ℕ → Type 0 → Type 0
IfRoom w bytes fact = HasRoom w (length bytes) → fact

-- where the string is too long for such keys, this holds
abbrev pub IfTooLong : ℕ → List ℕ → Type 0 → Type 0
IfTooLong w bytes fact = (HasRoom w (length bytes) → ⊥) → fact
