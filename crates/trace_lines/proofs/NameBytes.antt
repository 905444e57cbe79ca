-- The bytes of names are text.
use Rattle.std.proofs.Common.{◌≡◌, ℕ, ◌<◌, true, List, [], ◌∷◌, arith}
use Rattle.std.specs.List.{list_all}
use Rattle.std.specs.Str.{IsAscii, IsUtf8}
use Rattle.std.proofs.lemmas.Bool.{and_parts}
use Rattle.std.proofs.lemmas.Bool.Decides.{nat_tests}
use Rattle.std.proofs.lemmas.Str.{IsUtf8-from_ascii}
use Rattle.std.proofs.lemmas.Str.Ascii.{IsAscii-nil, IsAscii-cons}
use Rattle.trace_lines.specs.Fields.{is_name_byte}

-- a byte of a name is ASCII
below_128 : (b : ℕ) → is_name_byte b ≡ true → b < 128
below_128 b h = grind (arith, nat_tests)

-- so are all of them
are_ascii : (bs : List ℕ) → list_all is_name_byte bs ≡ true → IsAscii bs
are_ascii [] h = IsAscii-nil
are_ascii (b ∷ bs) h = let parts = and_parts _ _ h in IsAscii-cons b bs (below_128 b parts.0) (are_ascii bs parts.1)

-- so they are text
pub names_are_text : (bs : List ℕ) → list_all is_name_byte bs ≡ true → IsUtf8 bs
names_are_text bs h = IsUtf8-from_ascii bs (are_ascii bs h)
