-- What a lawful World is.
use Rattle.std.specs.Prelude.{◌≡◌, ℕ, ◌+◌, ◌<◌, ◌≤◌, Bool, true, cond, ◌==◌, ◌&&◌, List, [], ◌∷◌, length, Some}
use Rattle.bump_rules.specs.declared.places.Place.{Place}
use Rattle.bump_rules.specs.declared.places.Segment.TheVariants as segment
use Rattle.bump_rules.specs.declared.items.ItemId.{ItemId}
use Rattle.bump_rules.specs.declared.lanes.LaneStage.{LaneStage}
use Rattle.bump_rules.specs.declared.lanes.LaneStage.TheVariants as lane
use Rattle.bump_rules.specs.declared.hands.Hand.{Hand}
use Rattle.bump_rules.specs.declared.hands.Hand.TheVariants as hand
use Rattle.bump_rules.specs.Configs.{most_chunks, most_classes, most_workers}
use Rattle.bump_rules.specs.Totals.{total, how_many}
use Rattle.bump_rules.specs.Lives.{life, one_if, count_of}
use Rattle.bump_rules.specs.Lawful.{Lawful}
use Rattle.bump_rules.specs.History.{Standing, standing_in, is_between, AreBetween, replayed}
use Rattle.model_state.specs.State.{State, ClassState, WorkerState, chunk_at, head_at, class_at, worker_at, class_of}
use Rattle.model_state.specs.State.{workers_on}
use Rattle.bump_rules.specs.Lanes.{applied_life}
use Rattle.bump_rules.specs.Rings.{aboard}
use Rattle.model_state.specs.Rings.{in_ring, IsWorker}
use Rattle.bump_rules.specs.Entries.{is_stray, is_move_for, is_unlink_of, is_told_gone, moves_told}

-- the holds of a life
abbrev pub holds_of : State → ItemId → ℕ
holds_of state item =
    cond ((head_at state item.chunk).generation == item.generation) (chunk_at state item.chunk).holds 0

-- 1 where the worker has a reference to the life in its hand
abbrev pub in_hand_of : ItemId → Hand → ℕ
in_hand_of item (hand.InHand life) = one_if item life
in_hand_of item _ = 0

-- the references to a life that the bump aboard a lane has
abbrev pub in_lane_of : ItemId → LaneStage → ℕ
in_lane_of item stage = total (λ bump. one_if item bump.life) (aboard stage)

-- the references to a life that a worker's bumps have: in its hand, in its ring and in its lane
abbrev pub bumps_of : ItemId → WorkerState → ℕ
bumps_of item worker = in_hand_of item worker.hand + count_of item (in_ring worker) + in_lane_of item worker.lane

-- the references to a life: its holds, and the bumps of all workers
abbrev pub references : State → ℕ → ℕ → ℕ
references state chunk generation =
    holds_of state (life chunk generation) + total (bumps_of (life chunk generation)) state.workers

-- how many first hits name a life
abbrev pub first_hits_of : State → ℕ → ℕ → ℕ
first_hits_of state chunk generation =
    total (λ worker. count_of (life chunk generation) worker.first_hits) state.workers

-- where a class's history leaves a chunk: its place, and its generation
abbrev pub stands_in : ClassState → ℕ → Standing
stands_in class chunk = standing_in class.fresh class.history chunk

abbrev pub place_in : ClassState → ℕ → Place
place_in class chunk = (stands_in class chunk).0

-- the same of the class of the chunk
abbrev pub standing : State → ℕ → Standing
standing state chunk = stands_in (class_at state (class_of state chunk)) chunk

abbrev pub place : State → ℕ → Place
place state chunk = (standing state chunk).0

-- the chunk is one of the class's
abbrev pub owns : ClassState → ℕ → Bool
owns class chunk = is_between class.first class.end chunk

-- the first class has the first chunks, the next class the next, and so on to the last
abbrev pub Tiles : ℕ → List ClassState → ℕ → Type 0
Tiles from [] end = from ≡ end
Tiles from (class ∷ classes) end = (class.first ≡ from) × (class.first < class.end) × Tiles class.end classes end

-- a class's lists are the replay of its history
pub record IsClass (class : ClassState) : Type 0 where
  pub lists : class.lists ≡ replayed class.first class.end class.history
  pub entries : AreBetween class.first class.end class.history
  -- each entry that names a bump as its cause is a move from COLD to WARM
  pub causes : how_many is_stray class.history ≡ 0

-- where a lane found ACTIVE and has not moved the item yet, the item is linked and in COLD
abbrev pub WaitsToMove : State → LaneStage → Type 0
WaitsToMove state (lane.Cleared bump true) =
    ((head_at state bump.life.chunk).linked ≡ true) × ((head_at state bump.life.chunk).segment ≡ segment.Cold)
WaitsToMove state _ = Unit {0}

-- the life is of this class and passes the test
abbrev pub is_of_class : State → ℕ → (ItemId → Bool) → ItemId → Bool
is_of_class state class test item = (class_of state item.chunk == class) && test item

-- the moves for this bump of this worker in the history of a class, of items that pass the test, are as many as the
-- worker's lane tells of
abbrev pub CountsMoves : State → ℕ → ℕ → ℕ → (ItemId → Bool) → Type 0
CountsMoves state class worker number test =
    how_many (is_move_for test worker number) (class_at state class).history
    ≡ moves_told (is_of_class state class test) number (worker_at state worker).applied (worker_at state worker).lane

-- where a lane tells that an item was gone, its class's history has its unlinking
abbrev pub WasUnlinked : State → WorkerState → Type 0
WasUnlinked state worker =
    (item : ItemId) → 0 < how_many (is_told_gone item) worker.applied
    → 0 < how_many (is_unlink_of item) (class_at state (class_of state item.chunk)).history

pub record IsLawful (state : State) : Type 0 where
  pub limit : 0 < state.refs_limit
  pub tiles : Tiles 0 state.classes (length state.chunks)
  -- each chunk is lawful
  pub chunks : (chunk : ℕ)
      → Lawful state.refs_limit (head_at state chunk) (place state chunk)
      (references state chunk) (first_hits_of state chunk)
  -- and its class's history leaves it in its generation
  pub generations : (chunk : ℕ) → (standing state chunk).1 ≡ (head_at state chunk).generation
  -- each life has a hold for each worker that isn't Idle on it
  pub hands : (item : ItemId) → workers_on state item ≤ holds_of state item
  pub classes : (class : ℕ) → class < length state.classes → IsClass (class_at state class)
  pub workers : (worker : ℕ) → worker < length state.workers → IsWorker state.capacity (worker_at state worker)
  -- at most one lane applies a bump of a class
  pub alone : (one other : ℕ) (applied too : ItemId) → one < length state.workers → other < length state.workers
      → applied_life (worker_at state one).lane ≡ Some applied → applied_life (worker_at state other).lane ≡ Some too
      → class_of state applied.chunk ≡ class_of state too.chunk → one ≡ other
  pub waits : (worker : ℕ) → worker < length state.workers → WaitsToMove state (worker_at state worker).lane
  -- the histories have the moves that the lanes tell of: so each is for one bump of one lane, and of a worker that
  -- isn't there there is none
  pub moves : (class worker number : ℕ) (test : ItemId → Bool) → CountsMoves state class worker number test
  -- each item that a lane tells of as gone was unlinked
  pub gone : (worker : ℕ) → worker < length state.workers → WasUnlinked state (worker_at state worker)

-- no more classes, chunks and workers than a configuration may have
pub record IsSized (state : State) : Type 0 where
  pub classes : length state.classes ≤ most_classes
  pub chunks : length state.chunks ≤ most_chunks
  pub workers : length state.workers ≤ most_workers
