-- What digits that are read one by one spell, by the definition of a number.
use Rattle.std.proofs.Common.{◌≡◌, ◌≢◌, ℕ, ◌+◌, ◌*◌, ◌-◌, ◌<◌, ◌≤◌, ◌^◌, Bool, true, false, ◌&&◌, ◌⊎◌, List, length, get_or, take, Some, None, sym, ap, ◌∙◌, subst, inl, inr, arith, ltb}
use Rattle.std.specs.Int.{IsInRange}
use Rattle.std.specs.Str.{all_ascii_digits}
use Rattle.std.specs.Str.Parse.{AllDigits, digits_value}
use Rattle.std.proofs.lemmas.Bool.{and_parts, cond-false, cond-true, false_from_ne_true, cases_eq, ltb-true}
use Rattle.std.proofs.lemmas.Bool.Decides.{nat_tests, Decides-and, Decides-or, Decides-not, Decides-ltb, Decides-eqb}
use Rattle.std.specs.Char.{digit_value, is_ascii_digit}
use Rattle.std.proofs.lemmas.Int.Digits.{digits_more, digits_value_more}
use Rattle.std.proofs.lemmas.List.{take_all}
use Rattle.std.proofs.lemmas.Str.{digit_value_digit}
use Rattle.std.proofs.lemmas.Str.Parse.{IsNumeralModel, numerals_by_value, tells_all_ascii_digits, digit_at, digits_value-take-le}
use Rattle.trace_lines.specs.Fields.{is_numeral, number_of}

-- the decimal digits, and the number that they spell
own : IsNumeralModel (λ ds. all_ascii_digits ds ≡ true) (digits_value 10)
own = numerals_by_value _ tells_all_ascii_digits

-- whether the bytes are a numeral of a number below 2^64
abbrev fits : List ℕ → Bool
fits bs = is_numeral bs && ltb (digits_value 10 bs) (2 ^ 64)

-- bytes that aren't such a numeral are no number
no_number : (bs : List ℕ) → (fits bs ≡ true → ⊥) → None ≡ number_of (2 ^ 64) bs
no_number bs h = sym (cond-false (fits bs) (Some (digits_value 10 bs)) None (false_from_ne_true (fits bs) h))

-- a digit is 48 to 57
digit_in_range : (b : ℕ) → true ≡ is_ascii_digit b → IsInRange 48 57 b
digit_in_range b h = grind (arith, nat_tests)

-- and no other byte is
other_not_in_range : (b : ℕ) → false ≡ is_ascii_digit b → IsInRange 48 57 b → ⊥
other_not_in_range b h r = grind (arith, nat_tests)

-- bytes among which another than a digit stands are none
pub none_from_other : (bs : List ℕ) (i : ℕ) → i < length bs → false ≡ is_ascii_digit (get_or bs i 0) → None ≡ number_of (2 ^ 64) bs
none_from_other bs i small other =
    no_number bs (λ e. other_not_in_range _ other (digit_at bs i (own.to bs (and_parts _ _ (and_parts _ _ e).0).0) small))

-- With one more digit the number is ten times as large, and has that digit more.
pub one_more : (bs : List ℕ) (i n : ℕ) → i < length bs → true ≡ is_ascii_digit (get_or bs i 0) → AllDigits 10 (take i bs) → n ≡ digits_value 10 (take i bs) → AllDigits 10 (take (i + 1) bs) × (n * 10 + (get_or bs i 0 - 48) ≡ digits_value 10 (take (i + 1) bs))
one_more bs i n small digit digits same =
    let digit_is = digit_value_digit (get_or bs i 0) (digit_in_range _ digit) in
    let range = digit_in_range (get_or bs i 0) digit in
    let low : digit_value (get_or bs i 0) < 10 = omega (arith, digit_is, range.0, range.1) in
    let more = digits_value_more 10 bs i small in
    (digits_more 10 bs i small digits low, omega (arith, digit_is, more, same, range.0))

-- nor are digits of which the first ones spell too large a number
pub none_from_large : (bs : List ℕ) (i : ℕ) → 2 ^ 64 ≤ digits_value 10 (take i bs) → None ≡ number_of (2 ^ 64) bs
none_from_large bs i large = no_number bs (λ e.
    let below : digits_value 10 bs < 2 ^ 64 = ltb-true (digits_value 10 bs) (2 ^ 64) (and_parts (is_numeral bs) (ltb (digits_value 10 bs) (2 ^ 64)) e).1 in
    let more : digits_value 10 (take i bs) ≤ digits_value 10 bs = digits_value-take-le 10 bs i (omega arith) in
    omega (arith, below, more, large))

-- one digit, or a first digit other than 0
lead : (bs : List ℕ) → (get_or bs 0 0 ≡ 48 → length bs < 2) → 0 < length bs → (length bs ≡ 1) ⊎ (get_or bs 0 0 ≢ 48)
lead bs short some = elim (cases_eq (get_or bs 0 0) 48) [ inl e ↦ let lt = short e in inl (omega arith) | inr ne ↦ inr ne ]

-- digits without a leading 0 are the number that they spell
number_from_digits : (bs : List ℕ) → AllDigits 10 bs → 0 < length bs → (get_or bs 0 0 ≡ 48 → length bs < 2) → digits_value 10 bs < 2 ^ 64 → Some (digits_value 10 bs) ≡ number_of (2 ^ 64) bs
number_from_digits bs digits some short small =
    let numeral = Decides-and _ _ (Decides-and _ _ (λ e. e, λ e. e) (Decides-and _ _ (Decides-ltb 0 (length bs)) (Decides-or _ _ (Decides-eqb (length bs) 1) (Decides-not _ (Decides-eqb (get_or bs 0 0) 48))))) (Decides-ltb (digits_value 10 bs) (2 ^ 64)) in
    sym (cond-true (fits bs) (Some (digits_value 10 bs)) None (numeral.1 ((own.from bs digits, (some, lead bs short some)), small)))

-- the same, once all bytes were read
pub number_from_all : (bs : List ℕ) (i n : ℕ) → length bs ≤ i → AllDigits 10 (take i bs) → n ≡ digits_value 10 (take i bs) → n < 2 ^ 64 → 0 < length bs → (get_or bs 0 0 ≡ 48 → length bs < 2) → Some n ≡ number_of (2 ^ 64) bs
number_from_all bs i n all digits same small some short =
    let whole = take_all i bs all in
    let value : n ≡ digits_value 10 bs = same ∙ ap (digits_value 10) whole in
    ap Some value ∙ number_from_digits bs (subst (λ (ds : List ℕ). AllDigits 10 ds) whole digits) some short (subst (λ (m : ℕ). m < 2 ^ 64) value small)
