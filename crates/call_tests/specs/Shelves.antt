-- What calls on a shelf do.
use Rattle.std.specs.Prelude.{◌≡◌, ℕ, List, Option, None, Some, is_some, slice_get, slice_set, count_by}
use Rattle.call_log.specs.Calls.{CallerView, from_of as from_by, now_of as now_by}

-- the number was put at the place, which had what was told; the other places stay
pub record Puts (place number : ℕ) (from : List (Option ℕ)) (told : Option ℕ) (to : List (Option ℕ)) : Type 0 where
  pub had : slice_get from place ≡ Some told
  pub placed : to ≡ slice_set from place (Some number)

-- the place, which had what was told, has no number now; the other places stay
pub record Takes (place : ℕ) (from : List (Option ℕ)) (told : Option ℕ) (to : List (Option ℕ)) : Type 0 where
  pub had : slice_get from place ≡ Some told
  pub emptied : to ≡ slice_set from place None

-- how many places have a number
abbrev pub number_in : List (Option ℕ) → ℕ
number_in places = count_by is_some places

-- a store of one shelf: its states have the number 0
abbrev pub from_of : CallerView (List (Option ℕ)) → List (Option ℕ)
from_of me = from_by (λ s. 0) me

abbrev pub now_of : CallerView (List (Option ℕ)) → List (Option ℕ)
now_of me = now_by (λ s. 0) 0 me
