use Rattle.std.proofs.Common.{◌≡◌, ◌+◌, ◌*◌, ◌-◌, ◌<◌, ◌≤◌, ◌^◌, ℕ, length, get_or, ◌∙◌, subst, arith}
use Rattle.std.proofs.lemmas.Bool.Decides.{nat_tests}
use Rattle.trace_lines.proofs.ReadDigits.{none_from_other, none_from_large, number_from_all, one_more}
use Rattle.trace_lines.proofs.fields.read_number.Goals as goal
use Rattle.trace_lines.proofs.fields.read_number.Goals.{else-digits-eq48-via-then-digits-eq48+else-digits-gt1, else-digits-eq48-via-else-digits-eq48}

-- what isn't below is at least as large
le-from_not_lt : {m n : ℕ} → (m < n → ⊥) → n ≤ m
le-from_not_lt h = omega (arith, h)

pub returns-then-not-is_ascii_digit : goal.returns-then-not-is_ascii_digit
returns-then-not-is_ascii_digit c =
    none_from_other c.args.digits.now c.loop-byte.byte-index c.loop-byte-test.true c.if-not-is_ascii_digit.ensures.value

pub returns-in_err-number : goal.returns-in_err-number
returns-in_err-number c =
    let bs = c.args.digits.now in
    let so_far = c.loop-byte.invariant in
    let more = one_more bs c.loop-byte.byte-index c.loop-byte.number c.loop-byte-test.true c.if-not-is_ascii_digit.ensures.value so_far.digits so_far.number in
    let large : 2 ^ 64 ≤ c.loop-byte.number * 10 + (get_or bs c.loop-byte.byte-index 0 - 48) = le-from_not_lt c.in_err-number.ensures in
    c.from_residual.ensures ∙ none_from_large bs (c.loop-byte.byte-index + 1) (subst (λ (n : ℕ). 2 ^ 64 ≤ n) more.1 large)

pub loop-byte-preserved : goal.loop-byte-preserved
loop-byte-preserved c =
    let so_far = c.loop-byte.invariant in
    let more = one_more c.args.digits.now c.loop-byte.byte-index c.loop-byte.number c.loop-byte-test.true c.if-not-is_ascii_digit.ensures.value so_far.digits so_far.number in
    let fits = c.in_ok-number.ensures in
    record { digits = more.0; small = rw fits.1 fits.0; number = fits.1 ∙ more.1 }

pub returns : goal.returns
returns c =
    let bs = c.args.digits.now in
    let so_far = c.loop-byte.invariant in
    let some : 0 < length bs = grind (arith, nat_tests) in
    let short : get_or bs 0 0 ≡ 48 → length bs < 2 = λ e. elim c.else-digits-eq48.branch [ else-digits-eq48-via-then-digits-eq48+else-digits-gt1 w ↦ omega arith | else-digits-eq48-via-else-digits-eq48 w ↦ omega arith ] in
    number_from_all bs c.loop-byte.byte-index c.loop-byte.number c.loop-byte-test.false so_far.digits so_far.number so_far.small some short
