-- The kinds of fields, and how a word is read as a field: numbers, names and segments.
use Rattle.std.specs.Prelude.{ℕ, ◌^◌, Bool, not, ◌&&◌, ◌||◌, ◌==◌, nat_lt, nat_le, List, [], ◌∷◌, length, slice_index}
use Rattle.std.specs.Prelude.{find, codes, Option, Some, None, Result, if◌then◌else◌}
use Rattle.std.specs.List.{list_all}
use Rattle.std.specs.Str.{all_ascii_digits, bytes_eq}
use Rattle.std.specs.Str.Parse.{digits_value}
use Rattle.bump_rules.specs.declared.places.Tail.{Tail}
use Rattle.bump_rules.specs.declared.places.Tail.TheVariants as tail
use Rattle.trace_lines.specs.Faults.{or_fault}
use Rattle.trace_lines.specs.declared.faults.Fault.{Fault}
use Rattle.trace_lines.specs.declared.faults.Fault.TheVariants as fault

-- A field is a number below 2^32, a number below 2^64, a name, or a segment.
pub data Kind : Type 0 where
  U32 : Kind
  U64 : Kind
  Name : Kind
  Segment : Kind

-- what a field of a kind says
abbrev pub Value : Kind → Type 0
Value U32 = ℕ
Value U64 = ℕ
Value Name = List ℕ
Value Segment = Tail

-- Decimal digits without a leading zero: one digit, or digits of which the first isn't 0.
abbrev pub is_numeral : List ℕ → Bool
is_numeral digits =
    all_ascii_digits digits
    && (nat_lt 0 (length digits) && (length digits == 1 || not (slice_index digits 0 == 48)))

-- the number below the limit that the digits spell
abbrev pub number_of : ℕ → List ℕ → Option ℕ
number_of limit digits =
    if is_numeral digits && nat_lt (digits_value 10 digits) limit then Some (digits_value 10 digits) else None

-- a to z, 0 to 9 and _
abbrev pub is_name_byte : ℕ → Bool
is_name_byte byte = (nat_le 97 byte && nat_le byte 122) || ((nat_le 48 byte && nat_le byte 57) || byte == 95)

-- a name: 1 to 32 such bytes
abbrev pub is_name : List ℕ → Bool
is_name word = nat_lt 0 (length word) && (nat_le (length word) 32 && list_all is_name_byte word)

-- the word of a segment
abbrev pub tail_word : Tail → List ℕ
tail_word tail.Hot = codes "hot"
tail_word tail.Warm = codes "warm"
tail_word tail.Cold = codes "cold"
tail_word tail.Evict = codes "evict"

-- what a word says as a field of a kind, if it is one
abbrev pub value_of : (kind : Kind) → List ℕ → Option (Value kind)
value_of U32 word = number_of (2 ^ 32) word
value_of U64 word = number_of (2 ^ 64) word
value_of Name word = if is_name word then Some word else None
value_of Segment word = find (λ t. bytes_eq word (tail_word t)) (tail.Hot ∷ tail.Warm ∷ tail.Cold ∷ tail.Evict ∷ [])

-- the fault of a word that is no field of a kind
abbrev pub fault_of_kind : Kind → Fault
fault_of_kind U32 = fault.Number
fault_of_kind U64 = fault.Number
fault_of_kind Name = fault.Name
fault_of_kind Segment = fault.Segment

-- a word as a field of a kind, or the fault that it is none
unfoldable pub field : (kind : Kind) → List ℕ → Result (Value kind) Fault
field kind word = or_fault (fault_of_kind kind) (value_of kind word)
