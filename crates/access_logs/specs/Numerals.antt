-- The size, the time and the time to live that a field gives.
use Rattle.std.specs.Prelude.{ℕ, ◌^◌, ◌&&◌, nat_lt, Bool, List, length, Option, Some, None, if◌then◌else◌}
use Rattle.std.specs.Str.{all_ascii_digits}
use Rattle.std.specs.Str.Parse.{digits_value, without_leading_plus}

-- bytes as a number: one decimal digit or more, and nothing else
abbrev pub is_number : List ℕ → Bool
is_number digits = nat_lt 0 (length digits) && all_ascii_digits digits

-- digits as a number of so many bits: larger ones are none
abbrev pub number_of_digits : ℕ → List ℕ → Option ℕ
number_of_digits bits digits = if is_number digits && nat_lt (digits_value 10 digits) (2 ^ bits) then Some (digits_value 10 digits) else None

-- a field as a number of so many bits: a plus may stand before its digits
abbrev pub number_of_field : ℕ → List ℕ → Option ℕ
number_of_field bits field = number_of_digits bits (without_leading_plus field)

-- a field as a size
abbrev pub size_of_field : List ℕ → Option ℕ
size_of_field field = number_of_field 32 field

-- a field as a time
abbrev pub time_of_field : List ℕ → Option ℕ
time_of_field field = number_of_field 64 field

-- a field as how long something lasts
abbrev pub ttl_of_field : List ℕ → Option ℕ
ttl_of_field field = number_of_field 64 field
