-- What is done on an open store by each line, by the tables on the whole state, and the text that each gives.
use Rattle.std.specs.Prelude.{ℕ, true, not, ◌&&◌, zero, suc, ◌+◌, List, [], ◌∷◌, ◌++◌, length, Option, Some, None}
use Rattle.std.specs.Prelude.{Result, Ok, Err, if◌then◌else◌}
use Rattle.bump_rules.specs.declared.bumps.Entry.{Entry}
use Rattle.bump_rules.specs.declared.commands.Answer.{Answer}
use Rattle.bump_rules.specs.declared.commands.Answer.TheVariants as answer
use Rattle.bump_rules.specs.declared.commands.Command.{Command}
use Rattle.bump_rules.specs.declared.commands.Command.TheVariants as command
use Rattle.bump_rules.specs.declared.items.ItemId.{ItemId}
use Rattle.bump_rules.specs.declared.places.Start.{Start}
use Rattle.bump_rules.specs.declared.places.Tail.{Tail}
use Rattle.bump_rules.specs.Starts.{link_command}
use Rattle.bump_core.specs.Commands.{answer_of, command_after}
use Rattle.bump_rules.specs.Lists.{ascending}
use Rattle.model_state.specs.State.{State, worker_at, is_class, is_worker, is_open}
use Rattle.model_state.specs.Events.{waiting}
use Rattle.trace_lines.specs.Lines.{Instruction, Set, Get, Hold, Hit, Read, Drop, Del, Pull, Sweep, Drain, Close, Show}
use Rattle.trace_lines.specs.Lines.{Moves, Par, may_follow_par}
use Rattle.bump_trace.specs.Names.{Names, bind, unbind}
use Rattle.bump_trace.specs.Stages.{StoreState, Open, Said, say}
use Rattle.trace_lines.specs.Text.{set_line, get_line, get_held_line, hold_line, hit_line, read_line, drop_line}
use Rattle.trace_lines.specs.Text.{del_line, pull_line, sweep_line, bump_line, drain_line, closed_line}
use Rattle.bump_trace.specs.Shows.{close_line, show_text, moves_text}
use Rattle.trace_lines.specs.declared.faults.Fault.{Fault}
use Rattle.trace_lines.specs.declared.faults.Fault.TheVariants as fault

-- the store after a command, with the same names
abbrev pub with_command : StoreState → Command → StoreState
with_command store made = record store { state = command_after store.state made }

-- set NAME CLASS LABEL, or temp NAME CLASS LABEL: an item is linked, and the name is bound to it; after any other
-- answer the bindings stay.
abbrev pub names_after : Answer → List ℕ → Names → Names
names_after (answer.Linked id) name names = bind name id names
names_after _ name names = names

-- the text of the answer, and the name bound
abbrev pub set_by : StoreState → Start → List ℕ → Answer → Said
set_by store start name given =
    say (Open (record store { names = names_after given name store.names })) (set_line start name given)

-- where there is such a class
unfoldable pub set_said : StoreState → ℕ → Start → List ℕ → ℕ → ℕ → Result Said Fault
set_said store now start name class label =
    let made = link_command start class label now in
    if is_class store.state class
    then Ok (set_by (with_command store made) start name (answer_of store.state made))
    else Err fault.Class

-- Closed workers take no holds, hits or bumps. What a worker's command answers, unless the worker is closed.
abbrev pub answer_by : State → ℕ → Command → Option Answer
answer_by state worker made = if is_open state worker then Some (answer_of state made) else None

-- the state after it
abbrev pub state_by : State → ℕ → Command → State
state_by state worker made = if is_open state worker then command_after state made else state

-- the store after it
abbrev pub with_command_by : StoreState → ℕ → Command → StoreState
with_command_by store worker made = record store { state = state_by store.state worker made }

-- get W NAME: a hold is taken; by it the label is read and the item is hit; and it is given back. Where there is no
-- hold the answer says why.
abbrev pub get_held : StoreState → ℕ → ℕ → List ℕ → ItemId → Said
get_held store now worker name id =
    let hit = command.Touch worker id now in
    say (Open (with_command (with_command store hit) (command.Release id)))
    (get_held_line worker name (answer_of store.state (command.Label id)) (answer_of store.state hit))

-- a hold is used, and any other answer told
abbrev pub get_by : StoreState → ℕ → ℕ → List ℕ → ItemId → Option Answer → Said
get_by store now worker name id (Some answer.Held) = get_held store now worker name id
get_by store now worker name id other = say (Open store) (get_line worker name other)

-- of the item that the name is bound to
abbrev pub get_bound : StoreState → ℕ → ℕ → List ℕ → Option ItemId → Result Said Fault
get_bound store now worker name None = Err fault.Unbound
get_bound store now worker name (Some id) =
    let made = command.Take worker id in
    Ok (get_by (with_command_by store worker made) now worker name id (answer_by store.state worker made))

-- where there is such a worker
unfoldable pub get_said : StoreState → ℕ → ℕ → List ℕ → Result Said Fault
get_said store now worker name =
    if is_worker store.state worker then get_bound store now worker name (store.names name) else Err fault.Worker

-- hold W NAME H: a hold is taken of the item and kept, and the hold name is bound to it; after any other answer
-- nothing is.
abbrev pub holds_after : Option Answer → List ℕ → ItemId → Names → Names
holds_after (Some answer.Held) hold id holds = bind hold id holds
holds_after _ hold id holds = holds

-- the text of the answer
abbrev pub hold_by : StoreState → ℕ → List ℕ → List ℕ → ItemId → Option Answer → Said
hold_by store worker name hold id given =
    say (Open (record store { holds = holds_after given hold id store.holds })) (hold_line worker name hold given)

-- where the hold name isn't in use
abbrev pub hold_unused : StoreState → ℕ → List ℕ → List ℕ → ItemId → Option ItemId → Result Said Fault
hold_unused store worker name hold id None =
    let made = command.Take worker id in
    Ok (hold_by (with_command_by store worker made) worker name hold id (answer_by store.state worker made))
hold_unused store worker name hold id (Some held) = Err fault.Held

-- of the item that the name is bound to
abbrev pub hold_bound : StoreState → ℕ → List ℕ → List ℕ → Option ItemId → Result Said Fault
hold_bound store worker name hold None = Err fault.Unbound
hold_bound store worker name hold (Some id) = hold_unused store worker name hold id (store.holds hold)

-- where there is such a worker
unfoldable pub hold_said : StoreState → ℕ → List ℕ → List ℕ → Result Said Fault
hold_said store worker name hold =
    if is_worker store.state worker then hold_bound store worker name hold (store.names name) else Err fault.Worker

-- hit W H: the item is hit by a hold that is kept.
abbrev pub hit_bound : StoreState → ℕ → ℕ → List ℕ → Option ItemId → Result Said Fault
hit_bound store now worker hold None = Err fault.Unbound
hit_bound store now worker hold (Some id) =
    let made = command.Touch worker id now in
    Ok (say (Open (with_command_by store worker made)) (hit_line worker hold (answer_by store.state worker made)))

-- where there is such a worker
unfoldable pub hit_said : StoreState → ℕ → ℕ → List ℕ → Result Said Fault
hit_said store now worker hold =
    if is_worker store.state worker then hit_bound store now worker hold (store.holds hold) else Err fault.Worker

-- read H: the label of the item is read by a hold that is kept.
abbrev pub read_bound : StoreState → List ℕ → Option ItemId → Result Said Fault
read_bound store hold None = Err fault.Unbound
read_bound store hold (Some id) = Ok (say (Open store) (read_line hold (answer_of store.state (command.Label id))))

unfoldable pub read_said : StoreState → List ℕ → Result Said Fault
read_said store hold = read_bound store hold (store.holds hold)

-- drop H: a hold that is kept is given back, and the hold name is free again.
abbrev pub drop_bound : StoreState → List ℕ → Option ItemId → Result Said Fault
drop_bound store hold None = Err fault.Unbound
drop_bound store hold (Some id) =
    let freed = with_command store (command.Release id) in
    Ok (say (Open (record freed { holds = unbind hold store.holds })) (drop_line hold))

unfoldable pub drop_said : StoreState → List ℕ → Result Said Fault
drop_said store hold = drop_bound store hold (store.holds hold)

-- del NAME: the item that the name is bound to ends, and the name stays bound.
abbrev pub del_bound : StoreState → List ℕ → Option ItemId → Result Said Fault
del_bound store name None = Err fault.Unbound
del_bound store name (Some id) =
    let made = command.Unlink id in
    Ok (say (Open (with_command store made)) (del_line name (answer_of store.state made)))

unfoldable pub del_said : StoreState → List ℕ → Result Said Fault
del_said store name = del_bound store name (store.names name)

-- pull CLASS SEGMENT
unfoldable pub pull_said : StoreState → ℕ → Tail → Result Said Fault
pull_said store class tail =
    let made = command.Pull class tail in
    if is_class store.state class
    then Ok (say (Open (with_command store made)) (pull_line class tail (answer_of store.state made)))
    else Err fault.Class

-- sweep CLASS
unfoldable pub sweep_said : StoreState → ℕ → Result Said Fault
sweep_said store class =
    let made = command.Sweep class in
    if is_class store.state class
    then Ok (say (Open (with_command store made)) (sweep_line class (answer_of store.state made)))
    else Err fault.Class

-- drain: of each worker, ascending, the bumps are applied until there is none, at most as many as its ring has room
-- for.
pub record Drained : Type 0 where
  pub state : State
  pub text : List ℕ
  pub count : ℕ

-- no bump
abbrev pub drained_none : State → Drained
drained_none state = record { state = state; text = []; count = 0 }

-- first these, then those
abbrev pub drained_both : Drained → Drained → Drained
drained_both first second =
    record { state = second.state; text = first.text ++ second.text; count = first.count + second.count }

-- one bump
abbrev pub drained_one : State → ℕ → Entry → Drained
drained_one state worker entry = record { state = state; text = bump_line worker entry; count = 1 }

-- what is done after one more answer: a bump, and then the others; any other answer is the end
abbrev pub drained_by : Answer → State → ℕ → (State → Drained) → Drained
drained_by (answer.Bumped entry) state worker others = drained_both (drained_one state worker entry) (others state)
drained_by _ state worker others = drained_none state

-- a worker's bumps, at most so many
abbrev pub drained_of : ℕ → ℕ → ℕ → State → Drained
drained_of now worker zero state = drained_none state
drained_of now worker (suc more) state =
    let made = command.Next worker now in
    drained_by (answer_of state made) (command_after state made) worker (drained_of now worker more)

-- these workers, one after another
abbrev pub drained_through : ℕ → List ℕ → State → Drained
drained_through now [] state = drained_none state
drained_through now (worker ∷ workers) state =
    let drained = drained_of now worker state.capacity state in
    drained_both drained (drained_through now workers drained.state)

-- the text of all bumps, and how many they were
abbrev pub drain_by : StoreState → Drained → Said
drain_by store drained = say (Open (record store { state = drained.state })) (drained.text ++ drain_line drained.count)

-- all workers
unfoldable pub drain_said : StoreState → ℕ → Result Said Fault
drain_said store now =
    Ok (drain_by store (drained_through now (ascending 0 (length store.state.workers)) store.state))

-- close W: the ring is closed, and the bumps that wait in it are applied.
abbrev pub close_by : StoreState → ℕ → Drained → Said
close_by store worker drained =
    say (Open (record store { state = drained.state })) (drained.text ++ close_line drained.state worker)

abbrev pub close_open : StoreState → ℕ → ℕ → Said
close_open store now worker =
    let closed = command_after store.state (command.Close worker) in
    close_by store worker (drained_of now worker (waiting (worker_at closed worker)) closed)

-- where there is such a worker, and it isn't closed yet
unfoldable pub close_said : StoreState → ℕ → ℕ → Result Said Fault
close_said store now worker =
    if is_worker store.state worker
    then Ok (if is_open store.state worker then close_open store now worker else say (Open store) (closed_line worker))
    else Err fault.Worker

-- show
unfoldable pub show_said : StoreState → Result Said Fault
show_said store = Ok (say (Open store) (show_text store.state))

-- moves
unfoldable pub moves_said : StoreState → Result Said Fault
moves_said store = Ok (say (Open store) (moves_text store.state))

-- par: it does nothing but that it says which lines may follow
unfoldable pub par_said : StoreState → Result Said Fault
par_said store = Ok (say (Open (record store { is_past_par = true })) [])

-- what each line does
abbrev pub line_answered : StoreState → ℕ → Instruction → Result Said Fault
line_answered store now (Set start name class label) = set_said store now start name class label
line_answered store now (Get worker name) = get_said store now worker name
line_answered store now (Hold worker name hold) = hold_said store worker name hold
line_answered store now (Hit worker hold) = hit_said store now worker hold
line_answered store now (Read hold) = read_said store hold
line_answered store now (Drop hold) = drop_said store hold
line_answered store now (Del name) = del_said store name
line_answered store now (Pull class tail) = pull_said store class tail
line_answered store now (Sweep class) = sweep_said store class
line_answered store now Drain = drain_said store now
line_answered store now (Close worker) = close_said store now worker
line_answered store now Show = show_said store
line_answered store now Moves = moves_said store
line_answered store now Par = par_said store

-- where it may stand
unfoldable pub instruction_said : StoreState → ℕ → Instruction → Result Said Fault
instruction_said store now instruction =
    if store.is_past_par && not (may_follow_par instruction) then Err fault.Order else line_answered store now instruction
