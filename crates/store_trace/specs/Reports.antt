-- The lines of the report of a run with threads.
use Rattle.std.specs.Prelude.{◌≡◌, ℕ, ◌+◌, List, [], ◌∷◌, ◌++◌, length, map, All, Option, None, Some, codes, decimal}
use Rattle.std.specs.Prelude.{if◌then◌else◌, slice_get}
use Rattle.std.specs.List.{range_with_len}
use mathlib.Core.List.{IsPrefix}
use Rattle.bump_class.specs.Applications.{moved_in}
use Rattle.bump_class.specs.Books.{BookView}
use Rattle.bump_class.specs.Lanes.{entries}
use Rattle.bump_rules.specs.Entries.{moves_of}
use Rattle.bump_rules.specs.declared.history.Change.{Change}
use Rattle.bump_rules.specs.declared.configs.Config.{Config}
use Rattle.bump_rules.specs.declared.places.Place.TheVariants as place
use Rattle.bump_store.specs.Finishing.{AreOfClasses, sum_of}
use Rattle.bump_unlocked.specs.Workers.{WorkerState}
use Rattle.bump_steps.specs.declared.views.ClassSheet.{ClassSheet}
use Rattle.bump_store.specs.Lanes.{LaneState}
use Rattle.bump_store.specs.Stores.{IsOfClass}
use Rattle.bump_store.specs.declared.finishing.ClassSizes.{ClassSizes}
use Rattle.bump_store.specs.declared.settling.Settled.{Settled}
use Rattle.trace_lines.specs.Text.{is_shown, accounts_line, moves_line}
use Rattle.store_trace.specs.Settled.{IsSettled}
use Rattle.store_trace.specs.declared.totals.Totals.{Totals}

-- total first A already B marked C
abbrev pub hits_text : Totals → List ℕ
hits_text totals =
    codes "total first " ++ decimal totals.first ++ codes " already " ++ decimal totals.already
    ++ codes " marked " ++ decimal totals.marked

-- queued D dropped E
abbrev pub bumps_text : Totals → List ℕ
bumps_text totals = codes " queued " ++ decimal totals.queued ++ codes " dropped " ++ decimal totals.dropped

-- miss F refs G busy H closed I
abbrev pub others_text : Totals → List ℕ
others_text totals =
    codes " miss " ++ decimal totals.miss ++ codes " refs " ++ decimal totals.refs
    ++ codes " busy " ++ decimal totals.busy ++ codes " closed " ++ decimal totals.closed

-- all in one line
abbrev pub total_line : Totals → List ℕ
total_line totals = hits_text totals ++ bumps_text totals ++ others_text totals ++ codes "\n"

-- temp H, where TEMP is told of
unfoldable pub temp_text : ClassSizes → List ℕ
temp_text sizes = if is_shown place.Temp sizes.temp then codes " temp " ++ decimal sizes.temp else []

-- sizes CLASS hot A warm B cold D
abbrev pub segments_text : ℕ → ClassSizes → List ℕ
segments_text class sizes =
    codes "sizes " ++ decimal class ++ codes " hot " ++ decimal sizes.hot ++ codes " warm " ++ decimal sizes.warm
    ++ codes " cold " ++ decimal sizes.cold

-- dying E unused F retired G
abbrev pub ended_text : ClassSizes → List ℕ
ended_text sizes =
    codes " dying " ++ decimal sizes.dying ++ codes " unused " ++ decimal sizes.unused
    ++ codes " retired " ++ decimal sizes.retired

-- all in one line, and what is in TEMP
abbrev pub sizes_line : ℕ → ClassSizes → List ℕ
sizes_line class sizes = segments_text class sizes ++ ended_text sizes ++ temp_text sizes ++ codes "\n"

-- a text for each of a list, numbered from n on
abbrev pub numbered_text : {A : Type 0} → (ℕ → A → List ℕ) → ℕ → List A → List ℕ
numbered_text text n [] = []
numbered_text text n (x ∷ xs) = text n x ++ numbered_text text (n + 1) xs

-- what is told of a worker
abbrev pub worker_line : ℕ → Settled → List ℕ
worker_line worker told = accounts_line worker told.counts told.applied

-- how many moves for bumps a class has, of each worker
abbrev pub moves_lines : ℕ → List ℕ → List ℕ
moves_lines class counts = numbered_text (moves_line class) 0 counts

-- what is told of an open worker, or of one that was settled
abbrev pub settled_told : Option WorkerState → LaneState → Settled → Settled
settled_told None lane settled = settled
settled_told (Some worker) lane settled = record { counts = worker.sheet.accounts; applied = length (entries lane.lane) }

-- how many moves a history has for bumps of each of so many workers
abbrev pub moves_of_each : ℕ → List Change → List ℕ
moves_of_each workers history = map (λ worker. moves_of worker history) (range_with_len 0 workers)

-- how many moves of items of a class each lane told
abbrev pub lane_moves_told : ClassSheet → List LaneState → List ℕ
lane_moves_told class lanes = map (λ this_lane. moved_in class (entries this_lane.lane)) lanes

-- how many moves a class's history has for bumps of each lane's worker
abbrev pub moves_of_lanes : ClassSheet → List LaneState → List ℕ
moves_of_lanes class lanes = map (λ this_lane. moves_of this_lane.lane.sheet.worker class.history) lanes

-- The counts of a class: those of the history that some Book of the class has. Of each lane's worker it has as many
-- moves as the lane told of items of the class.
pub record AreMovesOf (config : Config) (lanes : List LaneState) (class : ℕ) (counts : List ℕ) : Type 0 where
  pub book : BookView
  pub of_class : IsOfClass class config.classes book
  pub counted : counts ≡ moves_of_each config.workers book.sheet.history
  pub told : moves_of_lanes book.sheet lanes ≡ lane_moves_told book.sheet lanes

-- for each class, how many moves there were for each worker's bumps
pub record AreMoves (config : Config) (lanes : List LaneState) (moves : List (List ℕ)) : Type 0 where
  pub classes : length moves ≡ length config.classes
  pub each : (class : ℕ) (counts : List ℕ) → slice_get moves class ≡ Some counts → AreMovesOf config lanes class counts

-- A lane is later: it is of the same worker, and has entries behind those that it had.
abbrev pub IsLaterLane : LaneState → LaneState → Type 0
IsLaterLane before after =
    (after.lane.sheet.worker ≡ before.lane.sheet.worker) × IsPrefix (entries before.lane) (entries after.lane)

-- The report of a run on a store of this configuration, behind whose `get` lines stand these totals, once these lanes
-- were settled: a line of each worker; that of the totals; those of the moves of each class; and one of the sizes of
-- each.
pub record IsReport (config : Config) (lanes : List LaneState) (totals : Totals) (text : List ℕ) : Type 0 where
  pub workers : List Settled
  pub moves : List (List ℕ)
  pub sizes : List ClassSizes
  pub lines : text ≡ numbered_text worker_line 0 workers ++ total_line totals ++ numbered_text moves_lines 0 moves
      ++ numbered_text sizes_line 0 sizes
  pub each : length workers ≡ config.workers
  pub settled : All IsSettled workers
  pub moved : AreMoves config lanes moves
  pub of_classes : AreOfClasses config.classes sizes
  pub sums : map sum_of sizes ≡ map (λ class. class.chunks) config.classes
