-- Commands: what each answers and leaves, by the tables and in one go, and the events that it is made of.
use Rattle.std.specs.Prelude.{◌≡◌, ℕ, ◌+◌, Bool, true, false, not, ◌==◌, ◌&&◌, ◌||◌, nat_lt, List, [], ◌∷◌, ◌++◌}
use Rattle.std.specs.Prelude.{length, map, is_none, Option, None, Some, Result, Ok, Err, if◌then◌else◌}
use Rattle.std.specs.Option.{option_map_or}
use Rattle.std.specs.List.{list_any}
use Rattle.bump_rules.specs.declared.places.Limits.{Limits}
use Rattle.bump_rules.specs.declared.places.Segment.{Segment}
use Rattle.bump_rules.specs.declared.places.Segment.TheVariants as segment
use Rattle.bump_rules.specs.declared.places.Start.{Start}
use Rattle.bump_rules.specs.declared.places.Start.TheVariants as start
use Rattle.bump_rules.specs.declared.places.Tail.{Tail}
use Rattle.bump_rules.specs.declared.places.Tail.TheVariants as tail
use Rattle.bump_rules.specs.declared.items.ItemId.{ItemId}
use Rattle.bump_rules.specs.declared.items.Head.{Head}
use Rattle.model_state.specs.declared.chunks.Chunk.{Chunk}
use Rattle.bump_rules.specs.declared.bumps.Applied.{Applied}
use Rattle.bump_rules.specs.declared.bumps.Applied.TheVariants as applied
use Rattle.bump_rules.specs.declared.bumps.Ended.{Ended}
use Rattle.bump_rules.specs.declared.bumps.Ended.TheVariants.{Freed, Deferred}
use Rattle.bump_rules.specs.declared.bumps.Entry.{Entry}
use Rattle.bump_rules.specs.declared.history.Cause.TheVariants.{Pull, Bump as BumpOf}
use Rattle.bump_rules.specs.declared.history.Change.TheVariants as change
use Rattle.bump_rules.specs.declared.bumps.Bump.{Bump}
use Rattle.bump_rules.specs.declared.lanes.LaneStage.{LaneStage}
use Rattle.bump_rules.specs.declared.lanes.LaneStage.TheVariants as lane
use Rattle.bump_rules.specs.declared.bumps.Outcome.{Outcome}
use Rattle.bump_rules.specs.declared.bumps.Outcome.TheVariants as outcome
use Rattle.bump_rules.specs.declared.commands.Command.{Command}
use Rattle.bump_rules.specs.declared.commands.Command.TheVariants as command
use Rattle.bump_rules.specs.declared.commands.Answer.{Answer}
use Rattle.bump_rules.specs.declared.commands.Answer.TheVariants as answer
use Rattle.bump_rules.specs.declared.commands.Touch.{Touch}
use Rattle.bump_rules.specs.declared.commands.Touch.TheVariants as touch
use Rattle.bump_rules.specs.declared.commands.Hit.{Hit}
use Rattle.bump_rules.specs.declared.commands.Hit.TheVariants.{First as IsFirst, Already as IsAlready}
use Rattle.bump_rules.specs.declared.commands.Hit.TheVariants.{Marked as IsMarked, Attempts}
use Rattle.bump_rules.specs.declared.commands.Dropped.{Dropped}
use Rattle.bump_rules.specs.declared.commands.Dropped.TheVariants.{Full, Busy, RefsFull}
use Rattle.bump_rules.specs.declared.commands.Room.{Room}
use Rattle.bump_rules.specs.declared.commands.Room.TheVariants.{Known, Unknown}
use Rattle.bump_rules.specs.declared.commands.Pulled.{Pulled}
use Rattle.bump_rules.specs.declared.commands.Pulled.TheVariants as pulled
use Rattle.bump_rules.specs.declared.events.Event.{Event}
use Rattle.bump_rules.specs.declared.events.Event.TheVariants as event
use Rattle.bump_rules.specs.declared.events.Refused.{Refused}
use Rattle.bump_rules.specs.declared.events.Refused.TheVariants.{NotEnabled, OutOfMemory}
use Rattle.bump_rules.specs.Accounts.{counted}
use Rattle.bump_rules.specs.Lives.{life}
use Rattle.bump_rules.specs.History.{freed_change}
use Rattle.bump_rules.specs.Starts.{begun_change, link_event}
use Rattle.bump_rules.specs.Tables.{Get, IsStale, IsRefsFull, IsHeld, is_cold, get_of, ended_of, is_unheld, hit_of}
use Rattle.bump_rules.specs.Tables.{dropped_of, touch_of, outcome_of, pulled_of, pulled_to, segment_of, last_pulled}
use Rattle.model_state.specs.Sweeps.{sweep_of}
use Rattle.model_state.specs.State.{State, ClassState, WorkerState, chunk_at, head_at, class_at, worker_at, is_chunk}
use Rattle.model_state.specs.State.{is_class, is_worker, with_chunk, with_head, with_worker, with_change, with_changes}
use Rattle.model_state.specs.State.{class_of, is_linked, is_held, has_free_hold, is_open}
use Rattle.bump_core.specs.Runs.{one_asks}
use Rattle.bump_rules.specs.Hands.{is_idle}
use Rattle.bump_rules.specs.Rings.{most_attempts}
use Rattle.bump_rules.specs.Heads.{linked_head, one_more, one_fewer, fetched_head, marked_head, unlinked_head}
use Rattle.model_state.specs.Events.{is_at_rest, next_chunk, next_life, waiting, next_bump, with_hold, without_hold}
use Rattle.model_state.specs.Events.{unlink, close}
use Rattle.bump_rules.specs.Lanes.{bump_of, applied_bump, is_half_made}

-- Ends.

-- what the end of a life comes to that is linked: its link's reference is given back first
abbrev pub unlinked_as : State → ItemId → Ended
unlinked_as state item = ended_of (unlinked_head (head_at state item.chunk))

-- an unlinked life's chunk is free where its end came to that
abbrev pub with_chunk_freed : State → ItemId → Ended → State
with_chunk_freed state item Freed = with_change state (class_of state item.chunk) (freed_change item)
with_chunk_freed state item Deferred = state

-- a linked life ends
abbrev pub unlink_item : State → ItemId → State
unlink_item state item = with_chunk_freed (unlink state item) item (unlinked_as state item)

-- the look behind an end: a load, which is a sweep where it finds no reference
abbrev pub look_of : ℕ → Ended → Event
look_of chunk Freed = event.Sweep chunk
look_of chunk Deferred = event.Load chunk

abbrev pub unlink_events : State → ItemId → List Event
unlink_events state item = event.Unlink item ∷ look_of item.chunk (unlinked_as state item) ∷ []

-- Sweeps.

-- each of these chunks is looked at once
abbrev pub looks_at : (ℕ → Head) → List ℕ → List Event
looks_at heads chunks = map (λ chunk. look_of chunk (ended_of (heads chunk))) chunks

-- Pulls.

-- the last chunk of the list that a pull looks at
abbrev pub last_pulled_in : State → ℕ → Tail → Option ℕ
last_pulled_in state class from = last_pulled from (class_at state class).lists

-- the limits of HOT and WARM in a class
abbrev pub limits_in : ClassState → Limits
limits_in class = record { hot = class.hot_limit; warm = class.warm_limit }

-- what a pull does with its item, by the tail table
abbrev pub pulled_at : State → ℕ → Tail → ℕ → Pulled
pulled_at state class from chunk =
    let head = head_at state chunk in
    let item = life chunk head.generation in
    let here = class_at state class in
    pulled_of from head here.lists (limits_in here) (unlinked_as state item) item

-- the item goes to the front of a segment without ACTIVE, or nothing happens
abbrev pub pull_to : State → ℕ → Tail → ℕ → Option Segment → State
pull_to state class from chunk None = state
pull_to state class from chunk (Some to) =
    let head = head_at state chunk in
    let moved = with_head state chunk (record head { active = false; segment = to }) in
    with_change moved class (change.Moved (life chunk head.generation) (segment_of from) to Pull)

-- whether a pull is an evict
abbrev pub is_evict : Tail → Bool
is_evict tail.Hot = false
is_evict tail.Warm = false
is_evict tail.Cold = false
is_evict tail.Evict = true

-- an evict ends its item; any other pull moves it by the tail table
abbrev pub pull : State → ℕ → Tail → ℕ → State
pull state class from chunk =
    if is_evict from
    then unlink_item state (life chunk (head_at state chunk).generation)
    else pull_to state class from chunk (pulled_to (pulled_at state class from chunk))

-- Holds.

-- what a get answers, by what it comes to
abbrev pub get_answer : Get → Answer
get_answer IsStale = answer.Stale
get_answer IsRefsFull = answer.RefsFull
get_answer IsHeld = answer.Held

-- what a get of this life comes to, by the word that stands there
abbrev pub get_at : State → ItemId → Get
get_at state item = get_of state.refs_limit item.generation (head_at state item.chunk)

-- a hold is taken where the get comes to that
abbrev pub held_by_get : State → ItemId → Get → State
held_by_get state item IsStale = state
held_by_get state item IsRefsFull = state
held_by_get state item IsHeld = with_hold state item.chunk

-- its events, after the load
abbrev pub get_events : ℕ → ItemId → Get → List Event
get_events worker item IsStale = []
get_events worker item IsRefsFull = []
get_events worker item IsHeld = event.Take worker item ∷ []

-- Hits.

-- The head that the second step of a hit finds is the first one's with FETCHED.
abbrev pub hit_at : State → ItemId → Hit
hit_at state item = hit_of (head_at state item.chunk) (fetched_head (head_at state item.chunk))

-- a worker's ring shows room where fewer bumps wait in it than it has room for
abbrev pub room_at : State → ℕ → Room
room_at state worker = if nat_lt (waiting (worker_at state worker)) state.capacity then Known else Unknown

-- why a bump that a hit attempts is dropped, if it is: no exchange fails where nobody else makes a step
abbrev pub dropped_at : State → ℕ → ItemId → Option Dropped
dropped_at state worker item = dropped_of state.refs_limit 0 (head_at state item.chunk) (room_at state worker)

-- an attempt: the bump is queued with a reference of its own, or dropped, which leaves the head as it was
abbrev pub attempt : State → ℕ → ItemId → Option Dropped → State
attempt state worker item None =
    let old = worker_at state worker in
    let held = with_head state item.chunk (one_more (marked_head (head_at state item.chunk))) in
    with_worker held worker (record old { accounts = counted None old.accounts; sent = old.sent ++ item ∷ [] })
attempt state worker item (Some dropped) =
    let old = worker_at state worker in
    with_worker state worker (record old { accounts = counted (Some dropped) old.accounts })

-- a hit, by the hit table
abbrev pub hit : State → ℕ → ItemId → ℕ → Hit → State
hit state worker item now IsFirst =
    let old = worker_at state worker in
    let fetched = with_head state item.chunk (fetched_head (head_at state item.chunk)) in
    with_worker fetched worker (record old { first_hits = old.first_hits ++ item ∷ [] })
hit state worker item now IsAlready = state
hit state worker item now IsMarked =
    let old = chunk_at state item.chunk in
    with_chunk state item.chunk (record old { head = marked_head old.head; time = now })
hit state worker item now Attempts = attempt state worker item (dropped_at state worker item)

-- what a hit answers: a bump gets the number of those sent before it
abbrev pub hit_answer : State → ℕ → ItemId → Hit → Touch
hit_answer state worker item comes =
    touch_of comes (dropped_at state worker item) (length (worker_at state worker).sent)

-- the worker has attempted as many bumps as any may
abbrev pub is_exhausted : State → ℕ → Bool
is_exhausted state worker = (worker_at state worker).accounts.attempted == most_attempts

-- Bumps.

-- the bump that a lane applies next: the one aboard, or else the first that waits
abbrev pub bump_next : WorkerState → Option Bump
bump_next worker = by worker.lane
  where
    by : LaneStage → Option Bump
    by lane.Empty = option_map_or (λ item. Some (bump_of (length worker.received) item)) (next_bump worker) None
    by (lane.Carrying bump) = Some bump
    by _ = None

-- what applying a bump comes to, by the update table: the clearing step finds ACTIVE as it stands
abbrev pub outcome_next : State → Bump → Outcome
outcome_next state bump = outcome_of (head_at state bump.life.chunk) (head_at state bump.life.chunk)

-- what the end of an unlinked life comes to when a bump's reference is given back
abbrev pub gone_as : State → ℕ → Ended
gone_as state chunk = ended_of (one_fewer (head_at state chunk))

abbrev pub applied_as : State → Bump → Outcome → Applied
applied_as state bump outcome.Moved = applied.Moved
applied_as state bump outcome.TimeOnly = applied.TimeOnly
applied_as state bump outcome.Gone = applied.Gone (gone_as state bump.life.chunk)

abbrev pub entry_next : State → Bump → Entry
entry_next state bump =
    record { number = bump.number; life = bump.life; applied = applied_as state bump (outcome_next state bump) }

-- the chunk of a bump when it was applied: the time is stored unless it was gone, ACTIVE is clear and the segment WARM
-- where it was moved, and the bump's reference is given back
abbrev pub bumped_chunk : Chunk → ℕ → Outcome → Chunk
bumped_chunk old now outcome.Moved =
    record old { head = record (one_fewer old.head) { active = false; segment = segment.Warm }; time = now }
bumped_chunk old now outcome.TimeOnly = record old { head = one_fewer old.head; time = now }
bumped_chunk old now outcome.Gone = record old { head = one_fewer old.head }

-- the worker's ring and lane when a bump was applied
abbrev pub bumped_worker : WorkerState → Bump → Outcome → WorkerState
bumped_worker old bump became =
    record old { received = by old.lane; lane = lane.Empty; applied = old.applied ++ applied_bump bump became ∷ [] }
  where
    by : LaneStage → List ItemId
    by lane.Empty = old.received ++ bump.life ∷ []
    by _ = old.received

-- The lists of its class: a bump that moves its item enters the history, and so does the end of an item that was gone
-- and has no other holder.
abbrev pub bumped_lists : State → ℕ → Bump → Outcome → Ended → State
bumped_lists state worker bump outcome.Moved ended =
    let entry = change.Moved bump.life segment.Cold segment.Warm (BumpOf worker bump.number) in
    with_change state (class_of state bump.life.chunk) entry
bumped_lists state worker bump outcome.TimeOnly ended = state
bumped_lists state worker bump outcome.Gone ended = with_chunk_freed state bump.life ended

abbrev pub apply_bump : State → ℕ → ℕ → Bump → State
apply_bump state worker now bump =
    let chunk = bump.life.chunk in
    let became = outcome_next state bump in
    let stored = with_chunk state chunk (bumped_chunk (chunk_at state chunk) now became) in
    let alighted = with_worker stored worker (bumped_worker (worker_at state worker) bump became) in
    bumped_lists alighted worker bump became (gone_as state chunk)

-- Links.

-- a link that finds a chunk waits for the lane that applies a bump of its class
abbrev pub may_store : State → ℕ → Bool
may_store state class = is_class state class && (is_none (next_chunk state class) || is_at_rest state class)

-- what it answers
abbrev pub store_answer : State → ℕ → Answer
store_answer state class =
    option_map_or (λ chunk. answer.Linked (next_life state chunk)) (next_chunk state class) answer.NoFreeChunk

-- it stores the label, the time and the head, and the chunk enters the list in which the item begins
abbrev pub link_labelled : State → Start → ℕ → ℕ → ℕ → ℕ → State
link_labelled state start class label now chunk =
    let old = chunk_at state chunk in
    let head = linked_head start (old.head.generation + 1) in
    let stored = with_chunk state chunk (record old { head = head; time = now; label = label }) in
    with_change stored class (begun_change start (next_life state chunk))

abbrev pub store_item : State → Start → ℕ → ℕ → ℕ → State
store_item state start class label now =
    option_map_or (link_labelled state start class label now) (next_chunk state class) state

-- its events
abbrev pub store_events : State → Start → ℕ → ℕ → ℕ → List Event
store_events state start class label now =
    option_map_or (λ _. event.PutLabel class label ∷ event.PutTime class now ∷ link_event start class ∷ [])
    (next_chunk state class) []

-- Each command.

-- nobody holds one of the chunks in a class's DYING
abbrev pub frees_some : State → ℕ → Bool
frees_some state class = list_any (λ chunk. is_unheld (head_at state chunk)) (class_at state class).lists.dying

-- no lane applies a bump of the class of this one
abbrev pub may_apply : State → Bump → Bool
may_apply state bump = is_at_rest state (class_of state bump.life.chunk)

-- A command is refused where a number is out of range, a worker's ring is closed, a life has no free hold (a hit, a
-- release) or none (a label), or another command is half made in its way. What would change nothing of a class waits
-- for no lane.
abbrev pub is_allowed : State → Command → Bool
is_allowed state (command.Link class label now) = may_store state class
is_allowed state (command.LinkTemp class label now) = may_store state class
is_allowed state (command.Unlink item) = not (is_linked state item) || is_at_rest state (class_of state item.chunk)
is_allowed state (command.Sweep class) =
    is_class state class && (not (frees_some state class) || is_at_rest state class)
is_allowed state (command.Pull class from) =
    is_class state class && (is_none (last_pulled_in state class from) || is_at_rest state class)
is_allowed state (command.Take worker item) = is_open state worker
is_allowed state (command.Touch worker item now) =
    is_open state worker
    && (has_free_hold state item && (is_exhausted state worker || is_idle (worker_at state worker).hand))
is_allowed state (command.Label item) = is_held state item
is_allowed state (command.Release item) = has_free_hold state item
is_allowed state (command.Next worker now) =
    let applies = worker_at state worker in
    is_worker state worker
    && (not (is_half_made applies.lane) && option_map_or (may_apply state) (bump_next applies) true)
is_allowed state (command.Close worker) = is_open state worker && is_idle (worker_at state worker).hand

-- what an unlink answers
abbrev pub unlink_answer : State → ItemId → Answer
unlink_answer state item =
    if not (is_chunk state item.chunk) then answer.NoSuchChunk
    else (if is_linked state item then answer.Ended (unlinked_as state item) else answer.NotLinked)

-- What a command answers.
abbrev pub answer_of : State → Command → Answer
answer_of state (command.Link class label now) = store_answer state class
answer_of state (command.LinkTemp class label now) = store_answer state class
answer_of state (command.Unlink item) = unlink_answer state item
answer_of state (command.Sweep class) = answer.Swept (length (sweep_of state class))
answer_of state (command.Pull class from) =
    answer.Pulled (option_map_or (pulled_at state class from) (last_pulled_in state class from) pulled.Empty)
answer_of state (command.Take worker item) =
    if is_chunk state item.chunk then get_answer (get_at state item) else answer.NoSuchChunk
answer_of state (command.Touch worker item now) =
    answer.Touched
    (if is_exhausted state worker then touch.Exhausted else hit_answer state worker item (hit_at state item))
answer_of state (command.Label item) = answer.Label (chunk_at state item.chunk).label
answer_of state (command.Release item) = answer.Done
answer_of state (command.Next worker now) =
    option_map_or (λ bump. answer.Bumped (entry_next state bump)) (bump_next (worker_at state worker)) answer.Nothing
answer_of state (command.Close worker) = answer.Done

-- The state that a command leaves.
abbrev pub command_after : State → Command → State
command_after state (command.Link class label now) = store_item state start.Hot class label now
command_after state (command.LinkTemp class label now) = store_item state start.Temp class label now
command_after state (command.Unlink item) = if is_linked state item then unlink_item state item else state
command_after state (command.Sweep class) = with_changes state class (sweep_of state class)
command_after state (command.Pull class from) =
    option_map_or (pull state class from) (last_pulled_in state class from) state
command_after state (command.Take worker item) =
    if is_chunk state item.chunk then held_by_get state item (get_at state item) else state
command_after state (command.Touch worker item now) =
    if is_exhausted state worker then state else hit state worker item now (hit_at state item)
command_after state (command.Label item) = state
command_after state (command.Release item) = without_hold state item.chunk
command_after state (command.Next worker now) =
    option_map_or (apply_bump state worker now) (bump_next (worker_at state worker)) state
command_after state (command.Close worker) = close state worker

-- The events of each command.

abbrev pub move_events : ℕ → Option Segment → List Event
move_events chunk None = []
move_events chunk (Some to) = event.Move chunk to ∷ []

-- an evict's events are those of an end; any other pull clears ACTIVE and moves its item by the tail table
abbrev pub pull_events : State → ℕ → Tail → ℕ → List Event
pull_events state class from chunk =
    if is_evict from
    then unlink_events state (life chunk (head_at state chunk).generation)
    else event.ClearActive chunk ∷ move_events chunk (pulled_to (pulled_at state class from chunk))

abbrev pub attempt_events : ℕ → Option Dropped → List Event
attempt_events worker None = event.Reserve worker ∷ event.Push worker ∷ []
attempt_events worker (Some RefsFull) = event.DropRefs worker ∷ event.Unmark worker ∷ []
attempt_events worker (Some Full) = event.Reserve worker ∷ event.DropFull worker ∷ event.Unmark worker ∷ []
attempt_events worker (Some Busy) = event.DropBusy worker ∷ event.Unmark worker ∷ []

abbrev pub hit_events : State → ℕ → ItemId → ℕ → Hit → List Event
hit_events state worker item now IsFirst = event.Fetch worker item ∷ []
hit_events state worker item now IsAlready = event.Fetch worker item ∷ []
hit_events state worker item now IsMarked =
    event.Fetch worker item ∷ event.Mark worker item ∷ event.StoreTime item now ∷ []
hit_events state worker item now Attempts =
    event.Fetch worker item ∷ event.Mark worker item ∷ attempt_events worker (dropped_at state worker item)

-- a lane that carries no bump takes the next one
abbrev pub take_events : ℕ → LaneStage → List Event
take_events worker lane.Empty = event.TakeBump worker ∷ []
take_events worker _ = []

-- The steps of the update table: a cold item's ACTIVE is cleared, and where it was set the item is moved. After an item
-- that was gone its head is looked at once more, which is a sweep where nobody holds it any more.
abbrev pub apply_events : Head → ℕ → ℕ → ℕ → List Event
apply_events head worker now chunk =
    if not head.linked
    then event.Try worker ∷ event.Alight worker ∷ look_of chunk (ended_of (one_fewer head)) ∷ []
    else (if not (is_cold head.segment)
    then event.Try worker ∷ event.BumpTime worker now ∷ event.Alight worker ∷ []
    else (if head.active
    then event.Try worker ∷ event.BumpTime worker now ∷ event.ClearFor worker ∷ event.MoveFor worker
    ∷ event.Alight worker ∷ []
    else event.Try worker ∷ event.BumpTime worker now ∷ event.ClearFor worker ∷ event.Alight worker ∷ []))

-- the next bump is taken where none is aboard, and then applied
abbrev pub next_events : State → ℕ → ℕ → Bump → List Event
next_events state worker now bump =
    take_events worker (worker_at state worker).lane
    ++ apply_events (head_at state bump.life.chunk) worker now bump.life.chunk

abbrev pub events_of : State → Command → List Event
events_of state (command.Link class label now) = store_events state start.Hot class label now
events_of state (command.LinkTemp class label now) = store_events state start.Temp class label now
events_of state (command.Unlink item) = if is_linked state item then unlink_events state item else []
events_of state (command.Sweep class) = looks_at (head_at state) (class_at state class).lists.dying
events_of state (command.Pull class from) =
    option_map_or (pull_events state class from) (last_pulled_in state class from) []
events_of state (command.Take worker item) =
    if is_chunk state item.chunk then event.Load item.chunk ∷ get_events worker item (get_at state item) else []
events_of state (command.Touch worker item now) =
    if is_exhausted state worker then [] else hit_events state worker item now (hit_at state item)
events_of state (command.Label item) = event.Load item.chunk ∷ []
events_of state (command.Release item) = event.Release item ∷ []
events_of state (command.Next worker now) =
    option_map_or (next_events state worker now) (bump_next (worker_at state worker)) []
events_of state (command.Close worker) = event.Close worker ∷ []

-- A command asks for memory where one of its events does.
abbrev pub command_asks_for_memory : State → Command → Bool
command_asks_for_memory state call = one_asks state (events_of state call)

-- What is done of what may be allowed, leaves and answers this, and may ask for memory: where it is allowed it is made,
-- else it is refused. Want of memory is the last refusal: only what is allowed and asks for memory meets it. A refusal
-- changes nothing.
abbrev pub IsMade : Bool → State → Answer → Bool → State → State → Result Answer Refused → Type 0
IsMade allowed left told asks old new (Ok answer) = (allowed ≡ true) × (new ≡ left) × (answer ≡ told)
IsMade allowed left told asks old new (Err NotEnabled) = (allowed ≡ false) × (new ≡ old)
IsMade allowed left told asks old new (Err OutOfMemory) = (allowed ≡ true) × (new ≡ old) × (asks ≡ true)

-- What a command does, by the tables.
abbrev pub Commands : State → Command → State → Result Answer Refused → Type 0
Commands old call new result = IsMade (is_allowed old call) (command_after old call) (answer_of old call)
    (command_asks_for_memory old call) old new result

-- What a link does, wherever its item begins.
abbrev pub Stores : State → Start → ℕ → ℕ → ℕ → State → Result Answer Refused → Type 0
Stores old start class label now new result = IsMade (may_store old class) (store_item old start class label now)
    (store_answer old class) (one_asks old (store_events old start class label now)) old new result
