-- What stands for a name where no type does. A name's type has one value, and what a reader, a class or a lane owns
-- depends on no more of that type than its values: so any type of one value may stand for it.
use mathlib.Core.Path.{◌≡◌, refl, sym, ◌∙◌}
use mathlib.Core.List.{[]}
use mathlib.Core.HProp.{HProp}
use mir.Syntax.{wrote, ty_unit}
use base.Stored.{gnum}
use base.Fml.{ftrue}
use denote.Exit.{unchanged}
use denote.RattleType.{RattleType}
use denote.Sharing.{said}
use Rattle.atomic_table.specs.Seated.{TableId}

-- there is one value
pub record IsOne (A : Type 0) : Type 0 where
  pub value : A
  pub no_other : (y : A) → value ≡ y

abbrev pub as_fact : (A : Type 0) → IsOne A → HProp {0}
as_fact A is = (A, λ a b. sym (is.no_other a) ∙ is.no_other b)

abbrev pub trivial_proposition : HProp {0}
trivial_proposition = (Unit {0}, λ a b. refl)

-- a row with these values, and nothing else to tell
abbrev pub any : HProp {0} → RattleType
any A = record {
  Denot = A.0;
  mir = [];
  written = wrote ty_unit;
  reaches = [];
  lives = [];
  own_val = λ x vs. ftrue;
  exit = λ k. unchanged;
  coded = record { code = λ x. gnum 0; inj = λ x y e. A.1 x y };
  shr_at = λ x b o. said ftrue;
}

-- a table's number: how values are coded doesn't depend on it
abbrev pub some_table : TableId
some_table = record { words = 0; slots = 0; views_name = 0; atom = 0; block = 0; offset = 0; slot_names = [] }
