-- The type that stands for a name at a call has one value.
use Rattle.std.proofs.Common.{refl}
use Rattle.core.specs.declared.marker.Brand.{Brand}
use Rattle.bump_c.specs.One.{IsOne}

pub brand_is_one : IsOne Brand
brand_is_one = record { value = record {}; no_other = λ y. refl }
