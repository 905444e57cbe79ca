-- The rule: what holds of the words and of all views between any two atomic steps of all threads.
use Rattle.std.specs.Prelude.{◌≡◌, ℕ, true, zero, suc, ◌+◌, ◌-◌, ◌*◌, ◌^◌, ◌<◌, ◌≤◌, List, [], ◌∷◌, length, slice_index, None}
use Rattle.atomic_table.specs.Table.{State}
use Rattle.bump_rules.specs.declared.places.Place.{Place}
use Rattle.bump_rules.specs.declared.items.Head.{Head}
use Rattle.bump_rules.specs.declared.configs.ClassConfig.{ClassConfig}
use Rattle.bump_rules.specs.declared.configs.Config.{Config}
pub use Rattle.bump_rules.specs.Rings.{no_accounts}
use Rattle.bump_rules.specs.declared.bumps.AppliedBump.{AppliedBump}
use Rattle.bump_rules.specs.declared.hands.Hand.TheVariants as hand
use Rattle.bump_rules.specs.declared.lanes.LaneStage.TheVariants as lane
use Rattle.bump_rules.specs.Lawful.{Lawful}
use Rattle.bump_rules.specs.Totals.{total}
use Rattle.bump_rules.specs.Configs.{chunks_of}
use Rattle.bump_word.specs.Layout.{refs_width, generation_first}
use Rattle.bump_word.specs.Words.{Spells}
use Rattle.bump_steps.specs.declared.views.Empty.{Empty}
use Rattle.bump_steps.specs.declared.views.ClassSheet.{ClassSheet}
use Rattle.bump_steps.specs.declared.views.LaneSheet.{LaneSheet}
use Rattle.bump_steps.specs.declared.views.WorkerSheet.{WorkerSheet}
use Rattle.bump_steps.specs.declared.views.View.{View}
use Rattle.bump_steps.specs.Places.{head_place, words_at}
use Rattle.bump_steps.specs.Views.{Measure, held, named, saw, owners, strays, mislabels, misreads, glanced, misglanced, weight, tally}
use Rattle.bump_steps.specs.Views.{claims, evidence, Query, moves, settled, in_progress, underway, foreign, AreLabelled}
use Rattle.bump_steps.specs.Views.{workers_of, lane_count_of, untidy}

-- What a law of rows says: what holds of a row's words by number, of its label, which is number 0, and of its further
-- words. Behind the last one all are 0.
abbrev pub RowPredicate : Type 1
RowPredicate = (ℕ → ℕ) → Type 0

-- A chunk is sound: n is its head word, x its label and its further words, and t what all views together count of it.
pub record Sound (law : RowPredicate) (limit word : ℕ) (label : ℕ → ℕ) (tally_of : Measure → ℕ) : Type 0 where
  -- the head word is that of a Head, and the chunk stands in some list, so that it is lawful by the references and
  -- first hits of all views
  pub head : Head
  pub at : Place
  pub spells : Spells word head
  pub lawful : Lawful limit head at (λ g. tally_of (held g)) (λ g. tally_of (named g))
  -- one class has the chunk, and its history leaves it there, in this generation
  pub owned : tally_of owners ≡ 1
  pub agreed : tally_of (strays (at, head.generation)) ≡ 0
  -- its label and words are what this class stored last, and the row of each hold of the life
  pub labelled : (i : ℕ) → tally_of (mislabels i (label i)) ≡ 0
  pub read : (i : ℕ) → tally_of (misreads i head.generation (label i)) ≡ 0
  -- no glance is at a life to come, and while the life lasts those at it have its words, and loaded no others
  pub ahead : (g : ℕ) → head.generation < g → tally_of (glanced g) ≡ 0
  pub faithful : head.linked ≡ true → (i : ℕ) → tally_of (misglanced i head.generation (label i)) ≡ 0
  -- and of a chunk that is linked the table's law holds
  pub obeys : head.linked ≡ true → law label
  -- a life of which some worker set FETCHED has its first hit
  pub hit : (g : ℕ) → 0 < tally_of (saw g) → 0 < tally_of (named g)

-- how many chunks there are
abbrev pub chunks : Config → ℕ
chunks key = chunks_of key.classes

-- The words of chunk c stand side by side: its head, its time, of which nothing is said, its label, and its further
-- words.
abbrev pub SoundAt : RowPredicate → Config → State Empty View → ℕ → Type 0
SoundAt law key state chunk = Sound law key.refs_limit (slice_index state.words (head_place (length state.homes) chunk))
    (words_at (length state.homes) state.words chunk) (tally state.views chunk)

-- the limit of references is at least 1, and has room in the bits of a head word's count
abbrev pub HasFittingLimit : Config → Type 0
HasFittingLimit key = (0 < key.refs_limit) × (key.refs_limit < 2 ^ refs_width)

pub record Kept (law : RowPredicate) (key : Config) (state : State Empty View) : Type 0 where
  pub wide : length state.words ≡ head_place (length state.homes) (chunks key)
  pub small : HasFittingLimit key
  pub each : (c : ℕ) → c < chunks key → SoundAt law key state c
  -- no chunk has two classes
  pub one_class : (c : ℕ) → total (weight c owners) state.views ≤ 1
  -- each applied entry is true
  pub true_entries : (w : ℕ) (a : AppliedBump) → 0 < total (claims w a) state.views
      → 0 < total (evidence w a) state.views
  -- each move for a bump is told by one entry of a lane, or is in progress there
  pub even_moves : (q : Query) → total (moves q) state.views ≡ total (settled q) state.views
  -- and a class names it exactly while it is in progress
  pub named_moves : (q : Query) → total (in_progress q) state.views ≡ total (underway q) state.views
  -- a class's history speaks of its own chunks alone
  pub own_chunks : total foreign state.views ≡ 0
  -- and has the label of each life
  pub own_labels : AreLabelled state.views
  -- a worker has one sheet and one lane, and each lane's bumps are numbered in order
  pub one_worker : (n : ℕ) → total (workers_of n) state.views ≤ 1
  pub one_lane : (n : ℕ) → total (lane_count_of n) state.views ≤ 1
  -- and a number that is no worker's has no lane
  pub few_lanes : (n : ℕ) → key.workers ≤ n → total (lane_count_of n) state.views ≡ 0
  pub orderly : total untidy state.views ≡ 0

-- The views at the start: one seat has every sheet.

-- the classes from this number and this chunk on
abbrev pub class_sheets : ℕ → ℕ → ℕ → List ClassConfig → List ClassSheet
class_sheets fresh class first [] = []
class_sheets fresh class first (config ∷ ks) = record {
  class = class;
  first = first;
  count = config.chunks;
  fresh =
      fresh;
  history = [];
  labels = [];
  words = [];
  applying = None;
  steps = [];
} ∷ class_sheets fresh (class + 1) (first + config.chunks) ks

abbrev pub worker_sheet : ℕ → WorkerSheet
worker_sheet worker = record {
  worker = worker;
  hand = hand.Idle;
  accounts = no_accounts;
  hits = [];
  steps = [];
  taken = [];
  glances = [];
}

-- n workers from w on
abbrev pub worker_sheets : ℕ → ℕ → List WorkerSheet
worker_sheets worker zero = []
worker_sheets worker (suc count) = worker_sheet worker ∷ worker_sheets (worker + 1) count

abbrev pub lane_sheet : ℕ → LaneSheet
lane_sheet worker = record { worker = worker; stage = lane.Empty; applied = []; steps = [] }

-- the lanes of n workers from w on
abbrev pub lane_sheets : ℕ → ℕ → List LaneSheet
lane_sheets worker zero = []
lane_sheets worker (suc count) = lane_sheet worker ∷ lane_sheets (worker + 1) count

-- the view that has nothing: what a seat that was joined leaves behind
abbrev pub blank : View
blank = record { workers = []; holds = []; riders = []; classes = []; lanes = []; returned = []; seen = [] }

abbrev pub opened : Config → View
opened key = record blank {
  workers = worker_sheets 0 key.workers;
  classes = class_sheets (key.first_generation - 1) 0 0
      key.classes;
  lanes = lane_sheets 0 key.workers;
}

-- words of chunks that had no life
abbrev pub AreFresh : ℕ → ℕ → ℕ → List ℕ → Type 0
AreFresh slots count generation words = (length words ≡ head_place slots count)
    × ((c : ℕ) → c < count → (slice_index words (head_place slots c) ≡ 2 ^ generation_first * generation)
    × ((i : ℕ) → words_at slots words c i ≡ 0))
