-- What is made.
use Rattle.std.specs.Prelude.{◌≡◌, ℕ, ◌+◌, List, [], ◌∷◌, Option, None, Some}
use Rattle.atomic_table.specs.Seated.{TableId}
use Rattle.bump_rules.specs.declared.configs.Config.{Config}
use Rattle.bump_steps.specs.declared.views.ClassSheet.{ClassSheet}
use Rattle.bump_steps.specs.declared.views.LaneSheet.{LaneSheet}
use Rattle.bump_heads.specs.declared.views.ClassView.{ClassView}
use Rattle.bump_heads.specs.Seats.{IsClassSheet}

-- what contracts see of the words of a store without a name: its configuration, and which table they are
pub record BlankView : Type 0 where
  pub config : Config
  pub table : TableId

-- sheets of which nothing else is joined
abbrev pub class_seen : ClassSheet → ClassView
class_seen class = record { sheet = class; lane = None }

abbrev pub lane_seen : LaneSheet → Option LaneSheet
lane_seen this_lane = Some this_lane

-- new classes of a table with so many words, numbered from c on
abbrev pub AreNewClasses : ℕ → ℕ → List ClassSheet → Type 0
AreNewClasses words number [] = Unit {0}
AreNewClasses words number (class ∷ ks) = (class.class ≡ number) × IsClassSheet words class
    × (class.applying ≡ None) × AreNewClasses words (number + 1) ks

-- lanes with nothing aboard, of workers from this one on
abbrev pub AreNewLanes : ℕ → List LaneSheet → Type 0
AreNewLanes worker [] = Unit {0}
AreNewLanes worker (this_lane ∷ ls) = (Rattle.bump_steps.specs.Views.bump_aboard this_lane.stage ≡ None)
    × (this_lane.worker ≡ worker) × AreNewLanes (worker + 1) ls
