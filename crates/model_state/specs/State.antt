-- The state of a World: what is kept of each chunk, class and worker.
use Rattle.std.specs.Prelude.{◌≡◌, ℕ, suc, Bool, true, false, ◌==◌, ◌&&◌, nat_lt, List, [], ◌∷◌, ◌++◌, length}
use Rattle.std.specs.Prelude.{slice_index_or, slice_set, Option, None, Some, if◌then◌else◌}
use Rattle.std.specs.List.{list_any}
use Rattle.bump_rules.specs.declared.items.ItemId.{ItemId}
use Rattle.bump_rules.specs.declared.items.Head.{Head}
use Rattle.bump_rules.specs.declared.bumps.Accounts.{Accounts}
use Rattle.model_state.specs.declared.chunks.Chunk.{Chunk}
use Rattle.bump_rules.specs.declared.history.Change.{Change}
use Rattle.bump_rules.specs.declared.bumps.AppliedBump.{AppliedBump}
use Rattle.bump_rules.specs.declared.lanes.LaneStage.{LaneStage}
use Rattle.bump_rules.specs.declared.lanes.LaneStage.TheVariants as lane
use Rattle.bump_rules.specs.declared.hands.Hand.{Hand}
use Rattle.bump_rules.specs.declared.hands.Hand.TheVariants as hand
use Rattle.bump_rules.specs.Heads.{fresh_head}
use Rattle.bump_rules.specs.History.{subject, target, replay}
use Rattle.bump_rules.specs.Lists.{Lists, lists_by, to_front}
use Rattle.bump_rules.specs.Rings.{no_accounts}
use Rattle.bump_rules.specs.Totals.{total}
use Rattle.bump_rules.specs.Hands.{is_on}
use Rattle.bump_rules.specs.Lanes.{applied_life}

-- a class: its chunks from first on and below end, the generation with which each is fresh, the limits of HOT and
-- WARM, its lists and its history
pub record ClassState : Type 0 where
  pub first : ℕ
  pub end : ℕ
  pub fresh : ℕ
  pub hot_limit : ℕ
  pub warm_limit : ℕ
  pub lists : Lists
  pub history : List Change

-- a worker with its ring (what was sent and what of it was received) and its lane (how far it is, and what it applied)
pub record WorkerState : Type 0 where
  pub hand : Hand
  pub is_open : Bool
  pub accounts : Accounts
  pub first_hits : List ItemId
  pub sent : List ItemId
  pub received : List ItemId
  pub lane : LaneStage
  pub applied : List AppliedBump

-- the limit of a reference count, the capacity of a ring, and all chunks, classes and workers by number
pub record State : Type 0 where
  pub refs_limit : ℕ
  pub capacity : ℕ
  pub chunks : List Chunk
  pub classes : List ClassState
  pub workers : List WorkerState

-- What it has, by number. Past the end they stand for nothing that exists.
abbrev pub no_chunk : Chunk
no_chunk = record { head = fresh_head 0; time = 0; label = 0; holds = 0 }

abbrev pub no_class : ClassState
no_class =
    record { first = 0; end = 0; fresh = 0; hot_limit = 0; warm_limit = 0; lists = lists_by (λ _. []); history = [] }

-- a worker at the start
abbrev pub new_worker : WorkerState
new_worker = record {
  hand = hand.Idle;
  is_open = true;
  accounts = no_accounts;
  first_hits = [];
  sent = [];
  received = [];
  lane = lane.Empty;
  applied = [];
}

abbrev pub chunk_at : State → ℕ → Chunk
chunk_at state chunk = slice_index_or state.chunks chunk no_chunk

abbrev pub head_at : State → ℕ → Head
head_at state chunk = (chunk_at state chunk).head

-- the head of each of these chunks, by number
abbrev pub heads_of : List Chunk → ℕ → Head
heads_of chunks chunk = (slice_index_or chunks chunk no_chunk).head

abbrev pub class_at : State → ℕ → ClassState
class_at state class = slice_index_or state.classes class no_class

abbrev pub worker_at : State → ℕ → WorkerState
worker_at state worker = slice_index_or state.workers worker new_worker

-- whether there is a chunk, class or worker of this number
abbrev pub is_chunk : State → ℕ → Bool
is_chunk state chunk = nat_lt chunk (length state.chunks)

abbrev pub is_class : State → ℕ → Bool
is_class state class = nat_lt class (length state.classes)

abbrev pub is_worker : State → ℕ → Bool
is_worker state worker = nat_lt worker (length state.workers)

-- the state with another chunk, head, class or worker at a number
abbrev pub with_chunk : State → ℕ → Chunk → State
with_chunk state chunk new = record state { chunks = slice_set state.chunks chunk new }

abbrev pub with_head : State → ℕ → Head → State
with_head state chunk head = with_chunk state chunk (record (chunk_at state chunk) { head = head })

abbrev pub with_class : State → ℕ → ClassState → State
with_class state class new = record state { classes = slice_set state.classes class new }

abbrev pub with_worker : State → ℕ → WorkerState → State
with_worker state worker new = record state { workers = slice_set state.workers worker new }

-- the number of the class of a chunk: the first class that ends behind it
abbrev pub class_from : List ClassState → ℕ → ℕ
class_from [] chunk = 0
class_from (class ∷ classes) chunk = if nat_lt chunk class.end then 0 else suc (class_from classes chunk)

abbrev pub class_of : State → ℕ → ℕ
class_of state chunk = class_from state.classes chunk

-- an entry joins the history of its chunk's class, and the chunk comes to the front of the entry's list
abbrev pub class_with_change : ClassState → Change → ClassState
class_with_change class entry = record class {
  lists = to_front (subject entry).chunk (target entry) class.lists;
  history = class.history ++ entry ∷ [];
}

abbrev pub with_change : State → ℕ → Change → State
with_change state class entry = with_class state class (class_with_change (class_at state class) entry)

-- entries join the history of a class, and its lists are their replay
abbrev pub class_with_changes : ClassState → List Change → ClassState
class_with_changes class entries =
    record class { lists = replay class.lists entries; history = class.history ++ entries }

abbrev pub with_changes : State → ℕ → List Change → State
with_changes state class entries = with_class state class (class_with_changes (class_at state class) entries)

-- The life is its chunk's. The chunk is there: the head past the last one has a generation too.
abbrev pub is_current : State → ItemId → Bool
is_current state item = is_chunk state item.chunk && ((head_at state item.chunk).generation == item.generation)

-- the life is its chunk's and is linked
abbrev pub is_linked : State → ItemId → Bool
is_linked state item = is_current state item && (head_at state item.chunk).linked

-- the life is its chunk's and has a hold
abbrev pub is_held : State → ItemId → Bool
is_held state item = is_current state item && nat_lt 0 (chunk_at state item.chunk).holds

-- how many workers that aren't Idle are on the life
abbrev pub workers_on : State → ItemId → ℕ
workers_on state item = total (λ worker. is_on item worker.hand) state.workers

-- the life has more holds than workers that aren't Idle on it
abbrev pub has_free_hold : State → ItemId → Bool
has_free_hold state item = is_current state item && nat_lt (workers_on state item) (chunk_at state item.chunk).holds

-- the worker's ring still takes bumps
abbrev pub is_open : State → ℕ → Bool
is_open state worker = is_worker state worker && (worker_at state worker).is_open

-- there is a value, and it passes the test
abbrev pub some_and : {A : Type 0} → (A → Bool) → Option A → Bool
some_and test None = false
some_and test (Some value) = test value

-- the lane applies a bump of this class
abbrev pub applies_in : State → ℕ → LaneStage → Bool
applies_in state class progress = some_and (λ item. class_of state item.chunk == class) (applied_life progress)

-- a class is under application while a lane applies a bump of it
abbrev pub is_under_application : State → ℕ → Bool
is_under_application state class = list_any (λ worker. applies_in state class worker.lane) state.workers

-- There are as many chunks, classes and workers as before.
abbrev pub SameSizes : State → State → Type 0
SameSizes old new =
    (length new.chunks ≡ length old.chunks) × (length new.classes ≡ length old.classes)
    × (length new.workers ≡ length old.workers)
