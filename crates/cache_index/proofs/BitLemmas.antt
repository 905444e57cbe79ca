-- What is left of some bits when the lowest of them is taken away.
use Rattle.std.proofs.Common.{◌≡◌, ◌≢◌, ℕ, suc, ◌+◌, ◌-◌, ◌*◌, ◌/◌, ◌%◌, ◌^◌, ◌<◌, w64, sym, ap, ◌∙◌, subst, arith, ⊎_elim, suc-mul}
use Rattle.std.specs.Int.{bit_at, trailing_zeros}
use Rattle.std.proofs.lemmas.Nat.{div-add-mod', div-mul-add, mod-mul-add, pow-add, pow_pos}
use Rattle.std.proofs.lemmas.Nat.Bits.{bit_at-trailing_zeros}
use Rattle.std.proofs.lemmas.Bool.{cases_lt}
use Rattle.cache_index.specs.Walks.{TakesLowest}
use Rattle.cache_index.proofs.LaneLemmas.{shr_bit}

module _ (before after : ℕ) (takes : TakesLowest before after) where
  abbrev one : ℕ
  one = 2 ^ takes.bit

  abbrev rest : ℕ
  rest = before / 2 ^ takes.bit

  before_is : before ≡ rest * one
  before_is = let e = div-add-mod' before one in omega (arith, e, takes.zeros)

  after_is : after ≡ (rest - 1) * one
  after_is =
      let e1 : rest ≡ suc (rest - 1) = omega (arith, takes.one) in
      let e2 = ap (λ (k : ℕ). k * one) e1 in
      omega (arith, takes.rest, before_is, e2, suc-mul (rest - 1) one)

  after_div : after / one ≡ rest - 1
  after_div =
      ap (λ (n : ℕ). n / one) (let e : after ≡ (rest - 1) * one + 0 = omega (arith, after_is) in e)
      ∙ div-mul-add (rest - 1) one 0 (pow_pos takes.bit)

  half : after / one / 2 ^ 1 ≡ rest / 2 ^ 1
  half =
      ap (λ (n : ℕ). n / 2 ^ 1) after_div
      ∙ (let e : (rest - 1) / 2 ^ 1 ≡ rest / 2 ^ 1 = omega (arith, takes.one) in e)

  -- the bits above it stay
  above : (m : ℕ) → bit_at after (takes.bit + (1 + m)) ≡ bit_at before (takes.bit + (1 + m))
  above m =
      sym (shr_bit after takes.bit (1 + m))
      ∙ (sym (shr_bit (after / one) 1 m)
      ∙ (ap (λ (n : ℕ). bit_at n m) half
      ∙ (shr_bit rest 1 m ∙ shr_bit before takes.bit (1 + m))))

  -- and those below it are 0
  below_far : (j m : ℕ) → takes.bit ≡ j + (1 + m) → bit_at before j ≡ 0
  below_far j m at =
      let x = 2 ^ j in
      let y = 2 ^ m in
      let power : one ≡ x * (2 * y) =
      ap (λ (n : ℕ). 2 ^ n) at ∙ (pow-add 2 j (1 + m) ∙ ap (λ (n : ℕ). x * n) (pow-add 2 1 m)) in
      let whole : before ≡ rest * (x * (2 * y)) = before_is ∙ ap (λ (n : ℕ). rest * n) power in
      let turned : rest * (x * (2 * y)) ≡ rest * y * 2 * x + 0 = omega arith in
      let div : before / x ≡ rest * y * 2 =
      ap (λ (n : ℕ). n / x) (whole ∙ turned) ∙ div-mul-add (rest * y * 2) x 0 (pow_pos j) in
      ap (λ (n : ℕ). n % 2) (div ∙ (let e : rest * y * 2 ≡ rest * y * 2 + 0 = omega arith in e))
      ∙ mod-mul-add (rest * y) 2 0 (omega arith)

  below : (j : ℕ) → j < takes.bit → bit_at before j ≡ 0
  below j lt = below_far j (takes.bit - j - 1) (omega (arith, lt))

  -- a bit that is another one stays
  pub bit_stays : (j : ℕ) → bit_at before j ≡ 1 → j ≢ takes.bit → bit_at after j ≡ 1
  bit_stays j has apart =
      ⊎_elim
      (λ lt. let none = below j lt in absurd (omega (arith, none, has)))
      (λ over.
      let at : takes.bit + (1 + (j - takes.bit - 1)) ≡ j = omega (arith, over, apart) in
      let P : ℕ → Type 0 = λ i. bit_at after i ≡ bit_at before i in
      subst P at (above (j - takes.bit - 1)) ∙ has)
      (cases_lt j takes.bit)

  -- it is the lowest
  pub bit_lowest : 0 < before → before < 2 ^ 64 → trailing_zeros w64 before ≡ takes.bit
  bit_lowest has fits =
      let at = trailing_zeros w64 before in
      let lowest = bit_at-trailing_zeros w64 before has fits in
      ⊎_elim
      (λ lt. let none = below at lt in let some = lowest.1 in absurd (omega (arith, none, some)))
      (λ over. ⊎_elim
      (λ lt. let none = lowest.2 takes.bit lt in let some = takes.one in absurd (omega (arith, none, some)))
      (λ same. omega (arith, over, same))
      (cases_lt takes.bit at))
      (cases_lt at takes.bit)
