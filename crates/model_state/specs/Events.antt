-- Events: when each is enabled, the state after it, its reply, and what a step does.
use Rattle.std.specs.Prelude.{◌≡◌, ℕ, ◌+◌, ◌-◌, Bool, true, false, not, ◌&&◌, nat_lt, [], ◌∷◌, ◌++◌, length, slice_get}
use Rattle.std.specs.Prelude.{is_some, Option, Result, Ok, Err, OnOk, IfOk, OnErr, if◌then◌else◌}
use Rattle.std.specs.Option.{option_map_or}
use Rattle.bump_rules.specs.Heads.{linked_head, one_more, one_fewer, fetched_head, marked_head, cleared_head}
use Rattle.bump_rules.specs.Heads.{moved_head, unlinked_head}
use Rattle.bump_rules.specs.declared.places.Segment.{Segment}
use Rattle.bump_rules.specs.declared.places.Segment.TheVariants as segment
use Rattle.bump_rules.specs.declared.places.Start.{Start}
use Rattle.bump_rules.specs.declared.places.Start.TheVariants as start
use Rattle.bump_rules.specs.declared.items.Head.{Head}
use Rattle.bump_rules.specs.declared.items.ItemId.{ItemId}
use Rattle.bump_rules.specs.declared.history.Cause.TheVariants.{Pull, Bump as BumpOf}
use Rattle.bump_rules.specs.declared.history.Change.TheVariants as change
use Rattle.bump_rules.specs.declared.bumps.AppliedBump.{AppliedBump}
use Rattle.bump_rules.specs.declared.bumps.Bump.{Bump}
use Rattle.bump_rules.specs.declared.lanes.LaneStage.{LaneStage}
use Rattle.bump_rules.specs.declared.lanes.LaneStage.TheVariants as lane
use Rattle.bump_rules.specs.declared.hands.Hand.TheVariants as hand
use Rattle.bump_rules.specs.declared.events.Event.{Event}
use Rattle.bump_rules.specs.declared.events.Event.TheVariants as event
use Rattle.bump_rules.specs.declared.events.Reply.{Reply}
use Rattle.bump_rules.specs.declared.events.Reply.TheVariants as reply
use Rattle.bump_rules.specs.declared.events.Refused.{Refused}
use Rattle.bump_rules.specs.declared.events.Refused.TheVariants.{NotEnabled, OutOfMemory}
use Rattle.bump_rules.specs.Lives.{life}
use Rattle.bump_rules.specs.Tables.{attempts_bump, is_cold, is_unheld, may_move}
use Rattle.bump_rules.specs.Rings.{most_attempts}
use Rattle.bump_links.specs.Lists.{first_of, times}
use Rattle.bump_rules.specs.History.{freed_change}
use Rattle.bump_rules.specs.Starts.{begun_change}
use Rattle.model_state.specs.State.{State, WorkerState, chunk_at, head_at, class_at, worker_at, is_chunk, is_class}
use Rattle.model_state.specs.State.{with_chunk, with_head, with_worker, with_change, class_of, is_linked, is_held}
use Rattle.model_state.specs.State.{has_free_hold, is_open, some_and, is_under_application}
use Rattle.bump_rules.specs.Hands.{tried_life, life_in_hand, cleared_life, is_idle}
use Rattle.bump_rules.specs.Lanes.{carried, tried, applied_now, cleared_active, is_empty, bump_of, ending_at}

-- the count is under the limit
abbrev pub is_under_limit : State → ℕ → Bool
is_under_limit state chunk = nat_lt (head_at state chunk).refs state.refs_limit

-- the worker may begin a step of a hit: its ring is open, it is Idle, and the life has a hold that no other worker uses
abbrev pub may_hit : State → ℕ → ItemId → Bool
may_hit state worker item = is_open state worker && (is_idle (worker_at state worker).hand && has_free_hold state item)

-- no lane applies a bump of this class
abbrev pub is_at_rest : State → ℕ → Bool
is_at_rest state class = not (is_under_application state class)

-- the same of a class that exists
abbrev pub is_class_at_rest : State → ℕ → Bool
is_class_at_rest state class = is_class state class && is_at_rest state class

-- the chunk that the next link of a class takes: the front of UNUSED
abbrev pub next_chunk : State → ℕ → Option ℕ
next_chunk state class = first_of (class_at state class).lists.unused

-- a life may begin in the class: it is at rest, and has a chunk for it
abbrev pub may_link : State → ℕ → Bool
may_link state class = is_class_at_rest state class && is_some (next_chunk state class)

-- the chunk stands in its class's DYING
abbrev pub is_dying : State → ℕ → Bool
is_dying state chunk = nat_lt 0 (times chunk (class_at state (class_of state chunk)).lists.dying)

-- bumps that the lane has not taken yet
abbrev pub waiting : WorkerState → ℕ
waiting worker = length worker.sent - length worker.received

-- the next bump that the lane takes
abbrev pub next_bump : WorkerState → Option ItemId
next_bump worker = slice_get worker.sent (length worker.received)

-- the head is of a linked item in COLD
abbrev pub is_in_cold : Head → Bool
is_in_cold head = head.linked && is_cold head.segment

-- the bump that a worker's lane may end, and what with
abbrev pub ending : State → ℕ → Option AppliedBump
ending state worker = ending_at (head_at state) (worker_at state worker).lane

-- When an event is enabled. Numbers out of range name nothing, and no event is enabled of them: a worker that isn't
-- there has nothing in its hand, its ring and its lane, and a chunk that isn't there is neither linked nor DYING.
abbrev pub is_enabled : State → Event → Bool
is_enabled state (event.Load chunk) = is_chunk state chunk
is_enabled state (event.Take worker item) =
    is_open state worker && (is_linked state item && is_under_limit state item.chunk)
is_enabled state (event.Fetch worker item) = may_hit state worker item
is_enabled state (event.Mark worker item) =
    may_hit state worker item
    && ((head_at state item.chunk).fetched && nat_lt (worker_at state worker).accounts.attempted most_attempts)
is_enabled state (event.Reserve worker) =
    some_and (λ item. is_under_limit state item.chunk) (tried_life (worker_at state worker).hand)
is_enabled state (event.DropRefs worker) =
    some_and (λ item. not (is_under_limit state item.chunk)) (tried_life (worker_at state worker).hand)
is_enabled state (event.DropBusy worker) = is_some (tried_life (worker_at state worker).hand)
is_enabled state (event.Push worker) =
    is_open state worker
    && (is_some (life_in_hand (worker_at state worker).hand)
    && nat_lt (waiting (worker_at state worker)) state.capacity)
is_enabled state (event.DropFull worker) =
    is_some (life_in_hand (worker_at state worker).hand)
    && not (nat_lt (length (worker_at state worker).sent) state.capacity)
is_enabled state (event.Unmark worker) = is_some (cleared_life (worker_at state worker).hand)
is_enabled state (event.Close worker) = is_open state worker && is_idle (worker_at state worker).hand
is_enabled state (event.StoreTime item time) = is_held state item
is_enabled state (event.Release item) = has_free_hold state item
is_enabled state (event.PutLabel class label) = may_link state class
is_enabled state (event.PutTime class time) = may_link state class
is_enabled state (event.Link class) = may_link state class
is_enabled state (event.LinkTemp class) = may_link state class
is_enabled state (event.Unlink item) = is_linked state item && is_at_rest state (class_of state item.chunk)
is_enabled state (event.Sweep chunk) =
    is_dying state chunk && (is_unheld (head_at state chunk) && is_at_rest state (class_of state chunk))
is_enabled state (event.ClearActive chunk) =
    (head_at state chunk).linked && is_at_rest state (class_of state chunk)
is_enabled state (event.Move chunk to) =
    (head_at state chunk).linked
    && (may_move (head_at state chunk).segment to && is_at_rest state (class_of state chunk))
is_enabled state (event.TakeBump worker) =
    is_empty (worker_at state worker).lane
    && nat_lt (length (worker_at state worker).received) (length (worker_at state worker).sent)
is_enabled state (event.Try worker) =
    some_and (λ bump. is_at_rest state (class_of state bump.life.chunk)) (carried (worker_at state worker).lane)
is_enabled state (event.BumpTime worker time) =
    some_and (λ bump. (head_at state bump.life.chunk).linked) (applied_now (worker_at state worker).lane)
is_enabled state (event.ClearFor worker) =
    some_and (λ bump. is_in_cold (head_at state bump.life.chunk)) (tried (worker_at state worker).lane)
is_enabled state (event.MoveFor worker) = is_some (cleared_active (worker_at state worker).lane)
is_enabled state (event.Alight worker) = is_some (ending state worker)

-- An event that only reads or writes what is there asks for no memory. The others may: for an entry of a history, a
-- bump, or a first hit, which is one only where FETCHED was clear.
abbrev pub asks_for_memory : State → Event → Bool
asks_for_memory state (event.Fetch worker item) = not (head_at state item.chunk).fetched
asks_for_memory state (event.Push worker) = true
asks_for_memory state (event.Link class) = true
asks_for_memory state (event.LinkTemp class) = true
asks_for_memory state (event.Unlink item) = true
asks_for_memory state (event.Sweep chunk) = true
asks_for_memory state (event.Move chunk to) = true
asks_for_memory state (event.MoveFor worker) = true
asks_for_memory state (event.Alight worker) = true
asks_for_memory state _ = false

-- The changes that the events make, by the chunk, worker or class that they concern.

-- a hold more, or fewer
abbrev pub with_hold : State → ℕ → State
with_hold state chunk =
    let old = chunk_at state chunk in
    with_chunk state chunk (record old { head = one_more old.head; holds = old.holds + 1 })

abbrev pub without_hold : State → ℕ → State
without_hold state chunk =
    let old = chunk_at state chunk in
    with_chunk state chunk (record old { head = one_fewer old.head; holds = old.holds - 1 })

abbrev pub with_time : State → ℕ → ℕ → State
with_time state chunk time = with_chunk state chunk (record (chunk_at state chunk) { time = time })

abbrev pub with_label : State → ℕ → ℕ → State
with_label state chunk label = with_chunk state chunk (record (chunk_at state chunk) { label = label })

-- FETCHED is set, and where it was clear the life joins the worker's first hits
abbrev pub fetch : State → ℕ → ItemId → State
fetch state worker item =
    let old = worker_at state worker in
    let fetched = with_head state item.chunk (fetched_head (head_at state item.chunk)) in
    if (head_at state item.chunk).fetched then fetched
    else with_worker fetched worker (record old { first_hits = old.first_hits ++ item ∷ [] })

-- ACTIVE is set, and where it was clear in COLD a bump is attempted
abbrev pub mark : State → ℕ → ItemId → State
mark state worker item =
    let old = worker_at state worker in
    let head = head_at state item.chunk in
    let marked = with_head state item.chunk (marked_head head) in
    if attempts_bump head
    then with_worker marked worker (record old {
      hand = hand.Trying item;
      accounts = record old.accounts { attempted = old.accounts.attempted + 1 };
    })
    else marked

abbrev pub reserve : State → ℕ → ItemId → State
reserve state worker item =
    let reserved = with_head state item.chunk (one_more (head_at state item.chunk)) in
    with_worker reserved worker (record (worker_at state worker) { hand = hand.InHand item })

abbrev pub drop_refs : State → ℕ → ItemId → State
drop_refs state worker item =
    let old = worker_at state worker in
    with_worker state worker (record old {
      hand = hand.Clearing item;
      accounts = record old.accounts { refs = old.accounts.refs + 1 };
    })

abbrev pub drop_busy : State → ℕ → ItemId → State
drop_busy state worker item =
    let old = worker_at state worker in
    with_worker state worker (record old {
      hand = hand.Clearing item;
      accounts = record old.accounts { busy = old.accounts.busy + 1 };
    })

abbrev pub push : State → ℕ → ItemId → State
push state worker item =
    let old = worker_at state worker in
    with_worker state worker (record old {
      hand = hand.Idle;
      accounts = record old.accounts { accepted = old.accounts.accepted + 1 };
      sent = old.sent ++ item ∷ [];
    })

abbrev pub drop_full : State → ℕ → ItemId → State
drop_full state worker item =
    let old = worker_at state worker in
    let given_back = with_head state item.chunk (one_fewer (head_at state item.chunk)) in
    with_worker given_back worker (record old {
      hand = hand.Clearing item;
      accounts = record old.accounts { full = old.accounts.full + 1 };
    })

abbrev pub unmark : State → ℕ → ItemId → State
unmark state worker item =
    let cleared = with_head state item.chunk (cleared_head (head_at state item.chunk)) in
    with_worker cleared worker (record (worker_at state worker) { hand = hand.Idle })

abbrev pub close : State → ℕ → State
close state worker = with_worker state worker (record (worker_at state worker) { is_open = false })

-- the life that a link begins
abbrev pub next_life : State → ℕ → ItemId
next_life state chunk = life chunk ((head_at state chunk).generation + 1)

abbrev pub link : State → Start → ℕ → ℕ → State
link state start class chunk =
    let linked = with_head state chunk (linked_head start ((head_at state chunk).generation + 1)) in
    with_change linked class (begun_change start (next_life state chunk))

-- what a link in a segment leaves, and what it answers
abbrev pub link_next : State → Start → ℕ → State
link_next state start class = option_map_or (link state start class) (next_chunk state class) state

abbrev pub link_reply : State → ℕ → Reply
link_reply state class = option_map_or (λ chunk. reply.Life (next_life state chunk)) (next_chunk state class) reply.Done

-- the life ends, and its chunk is DYING
abbrev pub unlink : State → ItemId → State
unlink state item =
    let unlinked = with_head state item.chunk (unlinked_head (head_at state item.chunk)) in
    with_change unlinked (class_of state item.chunk) (change.Unlinked item)

-- the chunk is free
abbrev pub sweep : State → ℕ → State
sweep state chunk =
    with_change state (class_of state chunk) (freed_change (life chunk (head_at state chunk).generation))

abbrev pub move_chunk : State → ℕ → Segment → State
move_chunk state chunk to =
    let head = head_at state chunk in
    let moved = with_head state chunk (moved_head to head) in
    with_change moved (class_of state chunk) (change.Moved (life chunk head.generation) head.segment to Pull)

abbrev pub take_bump : State → ℕ → ItemId → State
take_bump state worker item =
    let old = worker_at state worker in
    with_worker state worker (record old {
      received = old.received ++ item ∷ [];
      lane = lane.Carrying (bump_of (length old.received) item);
    })

abbrev pub with_lane : State → ℕ → LaneStage → State
with_lane state worker progress = with_worker state worker (record (worker_at state worker) { lane = progress })

-- ACTIVE is cleared for a bump, and its lane keeps whether it was set
abbrev pub clear_for : State → ℕ → Bump → State
clear_for state worker bump =
    let head = head_at state bump.life.chunk in
    with_lane (with_head state bump.life.chunk (cleared_head head)) worker (lane.Cleared bump head.active)

-- the item of a bump moves from COLD to WARM
abbrev pub move_for : State → ℕ → Bump → State
move_for state worker bump =
    let chunk = bump.life.chunk in
    let moved = with_head state chunk (moved_head segment.Warm (head_at state chunk)) in
    let entry = change.Moved bump.life segment.Cold segment.Warm (BumpOf worker bump.number) in
    with_lane (with_change moved (class_of state chunk) entry) worker (lane.Moved bump)

-- a bump gives its reference back, and its lane has applied it
abbrev pub alight : State → ℕ → AppliedBump → State
alight state worker entry =
    let old = worker_at state worker in
    let given_back = with_head state entry.life.chunk (one_fewer (head_at state entry.life.chunk)) in
    with_worker given_back worker (record old { lane = lane.Empty; applied = old.applied ++ entry ∷ [] })

-- The state after an event that is enabled.
abbrev pub after : State → Event → State
after state (event.Load chunk) = state
after state (event.Take worker item) = with_hold state item.chunk
after state (event.Fetch worker item) = fetch state worker item
after state (event.Mark worker item) = mark state worker item
after state (event.Reserve worker) =
    option_map_or (reserve state worker) (tried_life (worker_at state worker).hand) state
after state (event.DropRefs worker) =
    option_map_or (drop_refs state worker) (tried_life (worker_at state worker).hand) state
after state (event.DropBusy worker) =
    option_map_or (drop_busy state worker) (tried_life (worker_at state worker).hand) state
after state (event.Push worker) = option_map_or (push state worker) (life_in_hand (worker_at state worker).hand) state
after state (event.DropFull worker) =
    option_map_or (drop_full state worker) (life_in_hand (worker_at state worker).hand) state
after state (event.Unmark worker) =
    option_map_or (unmark state worker) (cleared_life (worker_at state worker).hand) state
after state (event.Close worker) = close state worker
after state (event.StoreTime item time) = with_time state item.chunk time
after state (event.Release item) = without_hold state item.chunk
after state (event.PutLabel class label) =
    option_map_or (λ chunk. with_label state chunk label) (next_chunk state class) state
after state (event.PutTime class time) =
    option_map_or (λ chunk. with_time state chunk time) (next_chunk state class) state
after state (event.Link class) = link_next state start.Hot class
after state (event.LinkTemp class) = link_next state start.Temp class
after state (event.Unlink item) = unlink state item
after state (event.Sweep chunk) = sweep state chunk
after state (event.ClearActive chunk) = with_head state chunk (cleared_head (head_at state chunk))
after state (event.Move chunk to) = move_chunk state chunk to
after state (event.TakeBump worker) = option_map_or (take_bump state worker) (next_bump (worker_at state worker)) state
after state (event.Try worker) =
    option_map_or (λ bump. with_lane state worker (lane.Tried bump)) (carried (worker_at state worker).lane) state
after state (event.BumpTime worker time) =
    option_map_or (λ bump. with_time state bump.life.chunk time) (applied_now (worker_at state worker).lane) state
after state (event.ClearFor worker) = option_map_or (clear_for state worker) (tried (worker_at state worker).lane) state
after state (event.MoveFor worker) =
    option_map_or (move_for state worker) (cleared_active (worker_at state worker).lane) state
after state (event.Alight worker) = option_map_or (alight state worker) (ending state worker) state

-- the head that an event finds at a chunk
abbrev pub word_at : State → ℕ → Reply
word_at state chunk = reply.Word (head_at state chunk)

-- What an event answers.
abbrev pub reply_of : State → Event → Reply
reply_of state (event.Load chunk) = word_at state chunk
reply_of state (event.Take worker item) = reply.Done
reply_of state (event.Fetch worker item) = word_at state item.chunk
reply_of state (event.Mark worker item) = word_at state item.chunk
reply_of state (event.Reserve worker) = reply.Done
reply_of state (event.DropRefs worker) =
    option_map_or (λ item. word_at state item.chunk) (tried_life (worker_at state worker).hand) reply.Done
reply_of state (event.DropBusy worker) =
    option_map_or (λ item. word_at state item.chunk) (tried_life (worker_at state worker).hand) reply.Done
reply_of state (event.Push worker) = reply.Number (length (worker_at state worker).sent)
reply_of state (event.DropFull worker) =
    option_map_or (λ item. word_at state item.chunk) (life_in_hand (worker_at state worker).hand) reply.Done
reply_of state (event.Unmark worker) =
    option_map_or (λ item. word_at state item.chunk) (cleared_life (worker_at state worker).hand) reply.Done
reply_of state (event.Close worker) = reply.Done
reply_of state (event.StoreTime item time) = reply.Done
reply_of state (event.Release item) = word_at state item.chunk
reply_of state (event.PutLabel class label) = reply.Done
reply_of state (event.PutTime class time) = reply.Done
reply_of state (event.Link class) = link_reply state class
reply_of state (event.LinkTemp class) = link_reply state class
reply_of state (event.Unlink item) = word_at state item.chunk
reply_of state (event.Sweep chunk) = word_at state chunk
reply_of state (event.ClearActive chunk) = word_at state chunk
reply_of state (event.Move chunk to) = reply.Done
reply_of state (event.TakeBump worker) = reply.Number (length (worker_at state worker).received)
reply_of state (event.Try worker) =
    option_map_or (λ bump. word_at state bump.life.chunk) (carried (worker_at state worker).lane) reply.Done
reply_of state (event.BumpTime worker time) = reply.Done
reply_of state (event.ClearFor worker) =
    option_map_or (λ bump. word_at state bump.life.chunk) (tried (worker_at state worker).lane) reply.Done
reply_of state (event.MoveFor worker) = reply.Done
reply_of state (event.Alight worker) =
    option_map_or (λ entry. reply.Outcome entry.outcome) (ending state worker) reply.Done

-- What an answer tells of whether the event is enabled: it is made only where it is, and refused as NotEnabled
-- exactly where it isn't. Want of memory is the last refusal: only an event that is enabled meets it.
abbrev pub IsEnabledBy : Bool → Result Reply Refused → Type 0
IsEnabledBy enabled (Ok reply) = enabled ≡ true
IsEnabledBy enabled (Err NotEnabled) = enabled ≡ false
IsEnabledBy enabled (Err OutOfMemory) = enabled ≡ true

-- What a step does: where the event is enabled it makes it and answers its reply, else it refuses. A refusal changes
-- nothing.
pub record Steps (old : State) (event : Event) (new : State) (result : Result Reply Refused) : Type 0 where
  pub enabled : IsEnabledBy (is_enabled old event) result
  pub state : OnOk result (new ≡ after old event)
  pub reply : IfOk result (λ answered. answered ≡ reply_of old event)
  pub unchanged : OnErr result (new ≡ old)
