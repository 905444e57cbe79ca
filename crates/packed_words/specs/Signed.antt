-- A signed number as a word.
use Rattle.std.specs.Prelude.{◌≡◌, ◌<◌, ◌^◌, [], ◌∷◌, All, ℤ, FitsSigned}
use Rattle.std.specs.Int.{w64, cast_unsigned, cast_signed}
use Rattle.std.proofs.Common.{ap, sym, ◌∙◌, arith}
use Rattle.std.proofs.lemmas.Int.{ints, to_z-of_z}
use Rattle.std.proofs.lemmas.Grind.{common_steps}

-- its bits are a word
pub signed_word : (z : ℤ) → FitsSigned w64 z → All (λ w. w < 2 ^ 64) (cast_unsigned w64 z ∷ [])
signed_word z fits =
    let word : cast_unsigned w64 z < 2 ^ 64 = omega (arith, ints) in
    grind (arith, common_steps)

-- two numbers with the same bits are the same number
pub one_signed : (v w : ℤ) → FitsSigned w64 v → FitsSigned w64 w
    → cast_unsigned w64 v ∷ [] ≡ cast_unsigned w64 w ∷ [] → v ≡ w
one_signed v w p q e =
    let bits : cast_unsigned w64 v ≡ cast_unsigned w64 w = cc in
    sym (to_z-of_z w64 v p) ∙ ap (cast_signed w64) bits ∙ to_z-of_z w64 w q
