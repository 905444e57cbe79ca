-- The classes of a new World.
use Rattle.std.proofs.Common.{◌≡◌, ℕ, ◌+◌, List, [], ◌∷◌, length, refl, arith}
use Rattle.bump_rules.specs.declared.configs.ClassConfig.{ClassConfig}
use Rattle.model_state.specs.Opening.{classes_from}

-- there are as many classes as are configured
pub classes_long : (g from : ℕ) (ks : List ClassConfig) → length (classes_from g from ks) ≡ length ks
classes_long g from [] = refl
classes_long g from (c ∷ cs) = omega (arith, classes_long g (from + c.chunks) cs)
