-- What contracts see of the seats of classes and lanes.
use Rattle.std.specs.Prelude.{◌≡◌, ℕ, ◌+◌, ◌<◌, ◌≤◌, Bool, true, false, not, ◌||◌, List, [], ◌∷◌, Option, Some, None}
use Rattle.atomic_table.specs.Table.{Me}
use Rattle.atomic_table.specs.Seated.{TableId}
use Rattle.atomic_table.specs.declared.shared.Seat.{Seat}
use Rattle.bump_rules.specs.declared.bumps.Bump.{Bump}
use Rattle.bump_rules.specs.Lanes.{is_half_made}
use Rattle.bump_rules.specs.Lawful.{IsUsed}
use Rattle.bump_rules.specs.Lives.{life}
use Rattle.bump_rules.specs.Tables.{may_move}
use Rattle.bump_rules.specs.Totals.{how_many}
use Rattle.bump_rules.specs.declared.history.Change.{Change}
use Rattle.bump_rules.specs.declared.history.Change.TheVariants as change
use Rattle.bump_rules.specs.declared.places.Segment.{Segment}
use Rattle.bump_rules.specs.declared.places.Segment.TheVariants as segment
use Rattle.bump_rules.specs.Entries.{is_stray}
use Rattle.bump_rules.specs.History.{AreBetween}
use Rattle.bump_rules.specs.Labels.{label_of_life}
use Rattle.bump_steps.specs.Views.{labels_of, last_word}
use Rattle.bump_steps.specs.Riders.{lane_me}
use Rattle.bump_steps.specs.declared.views.Empty.{Empty}
use Rattle.bump_steps.specs.declared.views.ClassSheet.{ClassSheet}
use Rattle.bump_steps.specs.declared.views.LaneSheet.{LaneSheet}
use Rattle.bump_heads.specs.declared.views.ClassView.{ClassView}
use Rattle.bump_steps.specs.declared.views.View.{View}
use Rattle.bump_steps.specs.Views.{bump_aboard, owns, standing}
use Rattle.bump_steps.specs.Rule.{blank, lane_sheet}
use Rattle.bump_steps.specs.Places.{HasChunk}
use Rattle.bump_readers.specs.Seats.{head_or, first, listed}

-- sheets of seats that have none
abbrev pub no_lane : LaneSheet
no_lane = lane_sheet 0

abbrev pub no_class : ClassSheet
no_class = record { class = 0; first = 0; count = 0; fresh = 0; history = []; labels = []; words = []; applying = None; steps = [] }

-- ---- lanes

abbrev pub lane_in : Option (Seat Empty View) → Option LaneSheet
lane_in None = None
lane_in (Some seat) = Some (head_or no_lane seat.me.0.lanes)

-- the sheet of a lane by the views that it keeps: none while it is hollow
abbrev pub lane_in_views : List View → Option LaneSheet
lane_in_views [] = None
lane_in_views (view ∷ vs) = Some (head_or no_lane view.lanes)

abbrev pub lane_views : Option LaneSheet → List View
lane_views None = []
lane_views (Some this_lane) = record blank { lanes = this_lane ∷ [] } ∷ []

-- no bump of the lane is half applied
abbrev pub IsAtRest : Option LaneSheet → Type 0
IsAtRest None = Unit {0}
IsAtRest (Some this_lane) = is_half_made this_lane.stage ≡ false

-- a lane's seat, if it isn't hollow, has its sheet alone, and no bump that is half applied
abbrev pub IsLane : TableId → Option (Seat Empty View) → Type 0
IsLane table None = Unit {0}
IsLane table (Some seat) = (seat.me ≡ lane_me (head_or no_lane seat.me.0.lanes)) × (seat.table_id ≡ table)
    × (is_half_made (head_or no_lane seat.me.0.lanes).stage ≡ false)

-- the lane is this worker's, while it is whole and applied nothing yet
abbrev pub IsOfWorker : ℕ → Option LaneSheet → Type 0
IsOfWorker worker None = Unit {0}
IsOfWorker worker (Some this_lane) = this_lane.applied ≡ [] → this_lane.worker ≡ worker

abbrev pub aboard_lane : Option LaneSheet → Option Bump
aboard_lane None = None
aboard_lane (Some this_lane) = bump_aboard this_lane.stage

abbrev pub IsInRange : TableId → Option Bump → Type 0
IsInRange table None = Unit {0}
IsInRange table (Some bump) = HasChunk table bump.life.chunk

-- ---- histories

-- the entry is a move between segments that no table has: neither the tail table nor the update table
abbrev pub is_barred : Change → Bool
is_barred (change.Linked life) = false
is_barred (change.LinkedTemp life) = false
is_barred (change.Moved life from to cause) = not (may_move from to)
is_barred (change.Unlinked life) = false
is_barred (change.Swept life) = false
is_barred (change.Retired life) = false

abbrev pub is_temp : Segment → Bool
is_temp segment.Hot = false
is_temp segment.Warm = false
is_temp segment.Cold = false
is_temp segment.Temp = true

-- the entry is a move from TEMP or to TEMP
abbrev pub moves_temp : Change → Bool
moves_temp (change.Linked life) = false
moves_temp (change.LinkedTemp life) = false
moves_temp (change.Moved life from to cause) = is_temp from || is_temp to
moves_temp (change.Unlinked life) = false
moves_temp (change.Swept life) = false
moves_temp (change.Retired life) = false

-- ---- classes

abbrev pub class_in : View → ClassView
class_in view = record { sheet = head_or no_class view.classes; lane = first view.lanes }

abbrev pub class_me : ClassView → Me Empty View
class_me seat = (record blank { classes = seat.sheet ∷ []; lanes = listed seat.lane }, [])

-- What each class's sheet keeps.
pub record IsClassSheet (count : ℕ) (class : ClassSheet) : Type 0 where
  -- its chunks are among the table's
  pub within : class.first + class.count ≤ count
  -- its history speaks of its own chunks alone, and its moves for bumps are from COLD to WARM
  pub between : AreBetween class.first (class.first + class.count) class.history
  pub causes : how_many is_stray class.history ≡ 0
  -- and each of its moves is one that a table has
  pub allowed : how_many is_barred class.history ≡ 0
  -- a chunk that is not free has its life's label and words, which were stored before the life began
  pub labelled : (i c : ℕ) → owns c class ≡ true → IsUsed (standing class c).0
      → label_of_life (life c (standing class c).1) 0 (labels_of i class.labels class.words) ≡ Some (last_word i class c)
  -- and no life to come has begun
  pub unbegun : (i c g : ℕ) → (standing class c).1 < g
      → label_of_life (life c g) 0 (labels_of i class.labels class.words) ≡ None
