-- Workers with their lanes.
use Rattle.std.specs.Prelude.{List, map}
use Rattle.bump_store.specs.Lanes.{LaneState}
use Rattle.store_trace.specs.declared.pairs.Pair.{Pair}

module _ {N : Type 0} where
  -- the lanes, in order
  abbrev pub lanes_of : List (Pair N) → List LaneState
  lanes_of pairs = map (λ pair. pair.lane) pairs
