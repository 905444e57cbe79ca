-- What contracts see of a store of two shelves.
use Rattle.std.specs.Prelude.{ℕ, List, Option}
use Rattle.call_log.specs.Calls.{CallerView, from_of as from_by, now_of as now_by}

-- a state of one of them: which it is, and its places
pub record HalfView : Type 0 where
  pub number : ℕ
  pub places : List (Option ℕ)

-- which shelf a state is of
abbrev pub number_of : HalfView → ℕ
number_of half = half.number

-- the state that the shelf of the last call had before it
abbrev pub from_of : CallerView HalfView → HalfView
from_of me = from_by number_of me

-- the state of this shelf, as far as the caller knows
abbrev pub now_of : ℕ → CallerView HalfView → HalfView
now_of number me = now_by number_of number me
