-- Lemmas on the number that a field gives.
use Rattle.std.proofs.Common.{◌≡◌, ℕ, ◌<◌, ◌^◌, Bool, true, false, cond, ◌&&◌, List, [], ◌∷◌, drop, length, refl, sym, ap, ◌∙◌, arith, rules}
use Rattle.std.specs.Prelude.{Some, None, Result, Ok, Err, nat_lt, ◌==◌, if◌then◌else◌}
use Rattle.std.specs.Result.{result_ok}
use Rattle.std.specs.Str.{IsAscii, IsUtf8, all_ascii_digits}
use Rattle.std.specs.Str.Parse.{IsNumeral, ParsesUnsigned, digits_value, without_leading_plus}
use Rattle.std.proofs.lemmas.Bool.{lt-ltb, ltb-true}
use Rattle.std.proofs.lemmas.Fmt.{IsAscii-from_digits}
use Rattle.std.proofs.lemmas.Str.{IsUtf8-from_ascii}
use Rattle.std.proofs.lemmas.Str.Ascii.{IsAscii-nil, IsAscii-cons}
use Rattle.std.proofs.lemmas.Str.Parse.{IsNumeralModel, numerals_by_value, tells_all_ascii_digits}
use Rattle.access_logs.specs.Numerals.{number_of_digits, number_of_field}

-- the test tells digits
digits : IsNumeralModel (λ bytes. all_ascii_digits bytes ≡ true) (digits_value 10)
digits = numerals_by_value (λ bytes. all_ascii_digits bytes ≡ true) tells_all_ascii_digits

-- a number of so many bits is one
number-some : (bits : ℕ) (bytes : List ℕ) → IsNumeral 10 bytes → digits_value 10 bytes < 2 ^ bits → number_of_digits bits bytes ≡ Some (digits_value 10 bytes)
number-some bits bytes numeral few =
    by (nat_lt 0 (length bytes)) (all_ascii_digits bytes) (nat_lt (digits_value 10 bytes) (2 ^ bits))
    (lt-ltb 0 (length bytes) numeral.0) (digits.from bytes numeral.1) (lt-ltb (digits_value 10 bytes) (2 ^ bits) few)
  where
    by : (a b c : Bool) → a ≡ true → b ≡ true → c ≡ true → (if (a && b) && c then Some (digits_value 10 bytes) else None) ≡ Some (digits_value 10 bytes)
    by a b c some all below = ap (λ x. if (x && b) && c then Some (digits_value 10 bytes) else None) some
        ∙ ap (λ x. if x && c then Some (digits_value 10 bytes) else None) all ∙ ap (λ x. if x then Some (digits_value 10 bytes) else None) below

-- and nothing else is
number-none : (bits : ℕ) (bytes : List ℕ) → ¬ (IsNumeral 10 bytes × (digits_value 10 bytes < 2 ^ bits)) → number_of_digits bits bytes ≡ None
number-none bits bytes none = by (nat_lt 0 (length bytes)) (all_ascii_digits bytes) (nat_lt (digits_value 10 bytes) (2 ^ bits)) refl refl refl
  where
    by : (a b c : Bool) → nat_lt 0 (length bytes) ≡ a → all_ascii_digits bytes ≡ b → nat_lt (digits_value 10 bytes) (2 ^ bits) ≡ c
        → (if (a && b) && c then Some (digits_value 10 bytes) else None) ≡ None
    by true true true some all below = absurd (none ((ltb-true 0 (length bytes) some, digits.to bytes all), ltb-true (digits_value 10 bytes) (2 ^ bits) below))
    by true true false some all below = refl
    by true false c some all below = refl
    by false b c some all below = refl

-- what `parse` makes of a field is its number
pub number-parsed : {E : Type 0} (bits : ℕ) (field : List ℕ) (result : Result ℕ E) → ParsesUnsigned bits 10 field result → result_ok result ≡ number_of_field bits field
number-parsed bits field (Ok number) parsed = ap Some parsed.1 ∙ sym (number-some bits (without_leading_plus field) parsed.0.0 parsed.0.1)
number-parsed bits field (Err fault) parsed = sym (number-none bits (without_leading_plus field) parsed)

-- a field is ASCII where it is behind a plus
IsAscii-plus : (field : List ℕ) → IsAscii (without_leading_plus field) → IsAscii field
IsAscii-plus [] ascii = IsAscii-nil
IsAscii-plus (byte ∷ bytes) ascii = by (byte == 43) refl ascii
  where
    by : (b : Bool) → (byte == 43) ≡ b → IsAscii (drop (cond b 1 0) (byte ∷ bytes)) → IsAscii (byte ∷ bytes)
    by true is rest = IsAscii-cons byte bytes (search (arith, rules, is)) rest
    by false is rest = rest

-- what is no text is no number
pub number-not_text : (bits : ℕ) (field : List ℕ) → ¬ (IsUtf8 field) → number_of_field bits field ≡ None
number-not_text bits field none = number-none bits (without_leading_plus field) (λ is. none (IsUtf8-from_ascii field (IsAscii-plus field (IsAscii-from_digits (without_leading_plus field) is.0.1))))
