-- Lanes that are dealt to drainers: one to each in turn, over and over.
use Rattle.std.specs.Prelude.{ℕ, zero, suc, List, [], ◌∷◌, ◌++◌, map}
use Rattle.std.specs.declared.collections.VecDeque.{VecDeque}
use Rattle.bump_store.specs.Lanes.{LaneState}

-- The first so many that groups have in turn: the first of the first group, then that of the second one, and so on, and
-- behind the last group the second of the first one. Up to the turn of a group that has no more.
abbrev pub in_turn : {A : Type 0} → ℕ → List (List A) → List A
in_turn zero groups = []
in_turn (suc n) [] = []
in_turn (suc n) ([] ∷ groups) = []
in_turn (suc n) ((x ∷ xs) ∷ groups) = x ∷ in_turn n (groups ++ xs ∷ [])

module _ {Z : Type 0} where
  -- the lanes of each group
  abbrev pub group_lanes : List (VecDeque LaneState Z) → List (List LaneState)
  group_lanes groups = map (λ group. group.items) groups
