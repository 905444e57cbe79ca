-- What is printed of a state: all lists and accounts, and the last line of a worker that closes.
use Rattle.std.specs.Prelude.{ℕ, List, [], ◌++◌, length, codes, if◌then◌else◌}
use Rattle.std.specs.List.{flat_map}
use Rattle.bump_rules.specs.declared.places.Place.{Place}
use Rattle.bump_rules.specs.Lists.{list_at, ascending}
use Rattle.bump_rules.specs.Places.{all_places}
use Rattle.model_state.specs.State.{State, chunk_at, head_at, class_at, worker_at}
use Rattle.bump_rules.specs.Entries.{moves_of}
use Rattle.trace_lines.specs.Text.{chunk_text, is_shown, list_start, moves_line, accounts_text, accounts_line}
use Rattle.trace_lines.specs.Text.{close_start}

-- a space, and what is told of a chunk of the list
abbrev pub list_entry : State → Place → ℕ → List ℕ
list_entry state place chunk =
    codes " " ++ chunk_text place chunk (head_at state chunk) (chunk_at state chunk).time

-- class CLASS LIST SIZE, and then the entries of the list, front first, where it is told of
unfoldable pub list_line : State → ℕ → Place → List ℕ
list_line state class place =
    let chunks = list_at (class_at state class).lists place in
    if is_shown place (length chunks)
    then list_start class place (length chunks) ++ flat_map (list_entry state place) chunks ++ codes "\n"
    else []

-- the lines of a class: its lists in the order of all places
abbrev pub class_lines : State → ℕ → List ℕ
class_lines state class = flat_map (list_line state class) all_places

-- the line of a worker
unfoldable pub worker_line : State → ℕ → List ℕ
worker_line state worker =
    accounts_line worker (worker_at state worker).accounts (length (worker_at state worker).applied)

-- all lists, and then the accounts of all workers
abbrev pub show_text : State → List ℕ
show_text state =
    flat_map (class_lines state) (ascending 0 (length state.classes))
    ++ flat_map (worker_line state) (ascending 0 (length state.workers))

-- the line of a class and a worker, and those of a class
abbrev pub moves_line_of : State → ℕ → ℕ → List ℕ
moves_line_of state class worker = moves_line class worker (moves_of worker (class_at state class).history)

abbrev pub class_moves : State → ℕ → List ℕ
class_moves state class = flat_map (moves_line_of state class) (ascending 0 (length state.workers))

-- those of all classes
abbrev pub moves_text : State → List ℕ
moves_text state = flat_map (class_moves state) (ascending 0 (length state.classes))

-- close WORKER ACCOUNTS
unfoldable pub close_line : State → ℕ → List ℕ
close_line state worker =
    close_start worker ++ accounts_text (worker_at state worker).accounts (length (worker_at state worker).applied)
    ++ codes "\n"
