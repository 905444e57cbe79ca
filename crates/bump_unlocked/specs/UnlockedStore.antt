-- What contracts see of a store without locks.
use Rattle.std.specs.Prelude.{ℕ, ◌+◌, ◌≤◌, ◌<◌, List, [], ◌∷◌, length, map, slice_index}
use Rattle.std.specs.List.{zip}
use Rattle.bump_rules.specs.declared.configs.ClassConfig.{ClassConfig}
use Rattle.bump_steps.specs.declared.views.ClassSheet.{ClassSheet}
use Rattle.bump_steps.specs.declared.views.LaneSheet.{LaneSheet}
use Rattle.bump_class.specs.Books.{BookView, new_book}
use Rattle.bump_class.specs.Lanes.{LaneView}
use Rattle.bump_ring.specs.Ends.{Ring}

-- the new Books of classes with these sheets and these configurations, in order
abbrev pub new_books : List ClassSheet → List ClassConfig → ℕ → List BookView
new_books sheets classes workers = map (λ class. new_book class.0 class.1 workers) (zip sheets classes)

-- the first chunk of each of these classes, of which the first begins here, and the chunk behind them all
abbrev pub starts_from : ℕ → List ClassConfig → List ℕ
starts_from first [] = first ∷ []
starts_from first (config ∷ configs) = first ∷ starts_from (first + config.chunks) configs

-- The chunk is between the start at this place and the next one.
pub record IsBetweenStarts (chunk : ℕ) (starts : List ℕ) (place : ℕ) : Type 0 where
  pub in_range : place + 1 < length starts
  pub behind : slice_index starts place ≤ chunk
  pub before : chunk < slice_index starts (place + 1)

-- which rings lanes drain, in order
abbrev pub raw_rings : List LaneView → List Ring
raw_rings lanes = map (λ this_lane. this_lane.ring) lanes

-- what their seats know
abbrev pub raw_sheets_of : List LaneView → List LaneSheet
raw_sheets_of lanes = map (λ this_lane. this_lane.sheet) lanes
