-- What a World promises of its rings, its accounts, its free chunks, its lists and its lanes' entries, in the words
-- of the headline.
use Rattle.std.specs.Prelude.{◌≡◌, ℕ, ◌+◌, ◌<◌, ◌≤◌, Bool, true, false, ◌&&◌, ◌++◌, List, Some, length, map, take}
use Rattle.std.specs.List.{Contains}
use Rattle.bump_rules.specs.declared.places.Place.{Place}
use Rattle.bump_rules.specs.declared.items.ItemId.{ItemId}
use Rattle.bump_rules.specs.declared.events.Event.{Event}
use Rattle.bump_rules.specs.declared.places.Segment.TheVariants.{Cold, Warm}
use Rattle.bump_rules.specs.declared.bumps.AppliedBump.{AppliedBump}
use Rattle.bump_rules.specs.declared.history.Cause.TheVariants.{Bump}
use Rattle.bump_rules.specs.declared.history.Change.TheVariants.{Moved}
use Rattle.bump_rules.specs.Totals.{total, how_many}
use Rattle.bump_rules.specs.Entries.{is_stray, is_move_for, moves_of, is_moved, told_of, making, ShowsMove, IsTrueEntry}
use Rattle.bump_rules.specs.History.{is_place}
use Rattle.bump_rules.specs.Lawful.{bit, Shows}
use Rattle.bump_links.specs.Lists.{times}
use Rattle.bump_rules.specs.Lists.{list_at, times_in_all}
use Rattle.model_state.specs.Rings.{in_ring}
use Rattle.bump_core.specs.Runs.{run_of}
use Rattle.bump_rules.specs.Rings.{aboard, bump_applied, numbered_from, IsRing, IsAccounts}
use Rattle.model_state.specs.State.{State, WorkerState, head_at, class_at, class_of, worker_at}
use Rattle.model_state.specs.Worlds.{references, owns, stands_in, is_of_class, CountsMoves}

-- What a lane applied, then the bump aboard, and then the bumps in the ring are what the ring accepted, numbered from
-- 0: so every bump is applied once at most, and in that worker's order, and what is not applied yet is still on its
-- way.
abbrev pub AppliesInOrder : WorkerState → Type 0
AppliesInOrder worker =
    map bump_applied worker.applied ++ aboard worker.lane ++ numbered_from (length worker.received) (in_ring worker)
    ≡ numbered_from 0 worker.sent

-- how many moves for this bump of this worker the histories of all classes have together
abbrev pub moves_for : State → ℕ → ℕ → ℕ
moves_for state worker number =
    total (λ class. how_many (is_move_for (λ item. true) worker number) class.history) state.classes

-- How a chunk stands to the list of a class at a place.
pub record StandsInList (state : State) (class chunk : ℕ) (place : Place) : Type 0 where
  -- it is there once exactly where the class has it and its history leaves it there, and not at all elsewhere
  pub listed : times chunk (list_at (class_at state class).lists place)
      ≡ bit (owns (class_at state class) chunk && is_place (stands_in (class_at state class) chunk).0 place)
  -- where it is there, LINKED and the segment bits of its head say so
  pub shown : 0 < times chunk (list_at (class_at state class).lists place) → Shows (head_at state chunk) place
  -- and it has the generation in which the history leaves it
  pub generation : 0 < times chunk (list_at (class_at state class).lists place)
      → (head_at state chunk).generation ≡ (stands_in (class_at state class) chunk).1

pub record Headline (state : State) : Type 0 where
  -- each lane applies what its worker's ring accepted, once and in order
  pub in_order : (worker : ℕ) → worker < length state.workers → AppliesInOrder (worker_at state worker)
  -- a lane received the first part of what the ring accepted, and the ring has room for the rest
  pub rings : (worker : ℕ) → worker < length state.workers
      → IsRing state.capacity (worker_at state worker).sent (worker_at state worker).received
  -- a ring accepted what was sent; accepted and dropped bumps, and the attempt under way, add up to those attempted
  pub accounts : (worker : ℕ) → worker < length state.workers
      → IsAccounts (worker_at state worker).accounts
      (length (worker_at state worker).sent) (worker_at state worker).hand
  -- no chunk is free while a reader's hold, a worker's hand, a ring or a lane has a reference to a life of it
  pub none_free : (chunk generation : ℕ) → 0 < references state chunk generation
      → (times chunk (class_at state (class_of state chunk)).lists.unused ≡ 0)
      × (times chunk (class_at state (class_of state chunk)).lists.retired ≡ 0)
  -- the lists of a class have no repeats and no chunk of another class, and agree with its history and the heads
  pub stands : (class chunk : ℕ) (place : Place) → class < length state.classes → StandsInList state class chunk place
  -- each chunk of a class stands once in its seven lists
  pub once : (class chunk : ℕ) → class < length state.classes → owns (class_at state class) chunk ≡ true
      → times_in_all chunk (class_at state class).lists ≡ 1
  -- each entry of a history that names a bump as its cause is a move from COLD to WARM
  pub causes : (class : ℕ) → class < length state.classes → how_many is_stray (class_at state class).history ≡ 0
  -- Histories and lanes agree on moves: for each class, each bump and each set of items, there are as many moves for
  -- that bump of such items as the lane's entries that tell of one, and the one that the lane has made and not told
  -- yet.
  pub moves : (class worker number : ℕ) (test : ItemId → Bool) → CountsMoves state class worker number test
  -- In all, a class's history has as many moves for bumps of a worker as the worker's lane has entries with the outcome
  -- Moved of items of the class, and the one that it has made and not told yet.
  pub moves_in_all : (class worker : ℕ) → class < length state.classes
      → moves_of worker (class_at state class).history
      ≡ told_of (is_of_class state class (λ item. true)) (worker_at state worker).applied + making
      (is_of_class state class (λ item. true)) (worker_at state worker).lane
  -- no two moves are for one bump
  pub named_once : (worker number : ℕ) → moves_for state worker number ≤ 1
  -- each such move is shown by its lane: its entry with the bump's number has the same life and the outcome Moved, or
  -- the move is the application in progress
  pub shown : (class worker number : ℕ) (item : ItemId) → class < length state.classes
      → Contains (class_at state class).history (Moved item Cold Warm (Bump worker number))
      → ShowsMove number item (worker_at state worker).applied (worker_at state worker).lane
  -- no history has a move for a bump of which its lane tells TimeOnly or Gone
  pub unmoved : (worker : ℕ) (entry : AppliedBump) → worker < length state.workers
      → Contains (worker_at state worker).applied entry → is_moved entry.outcome ≡ false
      → moves_for state worker entry.number ≡ 0
  -- Each entry of a lane is true. Moved: its class's history has the move of that item for this very bump. Gone: it
  -- has the item's unlinking. TimeOnly: no history has a move for this bump.
  pub entries : (worker : ℕ) (entry : AppliedBump) → worker < length state.workers
      → Contains (worker_at state worker).applied entry
      → IsTrueEntry (class_at state (class_of state entry.life.chunk)).history worker
      (moves_for state worker entry.number ≡ 0) entry

-- A ring that was closed stays closed, and has accepted nothing since.
abbrev pub ClosedStay : State → State → Type 0
ClosedStay old new =
    (worker : ℕ) → (worker_at old worker).is_open ≡ false
    → ((worker_at new worker).is_open ≡ false) × ((worker_at new worker).sent ≡ (worker_at old worker).sent)

-- The same from each moment of a run on: from the state before it, and from that behind each of its first events. So
-- a ring that closes within the run accepts nothing from then on.
abbrev pub ClosedStayFrom : State → List Event → State → Type 0
ClosedStayFrom old events new =
    (count : ℕ) (between : State) → run_of old (take count events) ≡ Some between → ClosedStay between new
