-- What an answer of a reader's search does to the search.
use Rattle.std.specs.Prelude.{◌≡◌, ℕ, ◌+◌, ◌-◌, ◌*◌, ◌/◌, ◌%◌, ◌^◌, ◌<◌, ◌≤◌, ◌⊎◌}
use Rattle.std.specs.Int.{bit_at}
use Rattle.cache_index.specs.Places.{nest_behind, nest_of, lane_of, steps_to}
use Rattle.cache_index.specs.Views.{ReaderSearchView}

-- the search went on from nest to nest, and is so many nests further on as it has come to
pub record WalksOn (before after : ReaderSearchView) : Type 0 where
  pub later : after.later ≤ before.later
  pub nest : after.nest ≡ nest_behind before.nests before.nest (before.later - after.later)

-- the lowest bit that is 1 is taken away, and no other
pub record TakesLowest (before after : ℕ) : Type 0 where
  pub bit : ℕ
  pub zeros : before % 2 ^ bit ≡ 0
  pub one : before / 2 ^ bit % 2 ≡ 1
  pub rest : after + 2 ^ bit ≡ before

-- a walk over so many nests, which began at its home, is at this nest, and so many are yet to come
abbrev pub IsBehind : ℕ → ℕ → ℕ → ℕ → Type 0
IsBehind nests home nest later = nest ≡ nest_behind nests home (nests - 1 - later)

-- the lane is one of those that are left
abbrev pub HasLane : ℕ → ℕ → Type 0
HasLane left lane = bit_at left (8 * lane + 7) ≡ 1

-- a search has yet to come to a lane: it is one of those that are left in its nest, or lies in a nest behind
abbrev pub IsAhead : ReaderSearchView → ℕ → Type 0
IsAhead search place = ((nest_of place ≡ search.nest) × HasLane search.lanes (lane_of place))
    ⊎ ((0 < steps_to search.nests search.nest (nest_of place)) × (steps_to search.nests search.nest (nest_of place) ≤ search.later))
