-- The printed text: ids, flags, the starts of list lines, accounts, answers, and the line of each command.
use Rattle.std.specs.Prelude.{ℕ, Bool, true, nat_lt, List, [], ◌++◌, codes, decimal, Option, None, Some, if◌then◌else◌}
use Rattle.bump_rules.specs.declared.bumps.Accounts.{Accounts}
use Rattle.bump_rules.specs.declared.bumps.Applied.{Applied}
use Rattle.bump_rules.specs.declared.bumps.Applied.TheVariants.{Moved, TimeOnly, Gone}
use Rattle.bump_rules.specs.declared.bumps.Ended.TheVariants.{Freed, Deferred}
use Rattle.bump_rules.specs.declared.bumps.Entry.{Entry}
use Rattle.bump_rules.specs.declared.commands.Answer.{Answer}
use Rattle.bump_rules.specs.declared.commands.Answer.TheVariants as answer
use Rattle.bump_rules.specs.declared.commands.Dropped.TheVariants.{Full, Busy, RefsFull}
use Rattle.bump_rules.specs.declared.commands.Pulled.{Pulled}
use Rattle.bump_rules.specs.declared.commands.Pulled.TheVariants as pulled
use Rattle.bump_rules.specs.declared.commands.Touch.{Touch}
use Rattle.bump_rules.specs.declared.commands.Touch.TheVariants as touch
use Rattle.bump_rules.specs.declared.items.Head.{Head}
use Rattle.bump_rules.specs.declared.items.ItemId.{ItemId}
use Rattle.bump_rules.specs.declared.places.Place.{Place}
use Rattle.bump_rules.specs.declared.places.Place.TheVariants as place
use Rattle.bump_rules.specs.declared.places.Start.{Start}
use Rattle.bump_rules.specs.declared.places.Start.TheVariants as start
use Rattle.bump_rules.specs.declared.places.Tail.{Tail}
use Rattle.bump_rules.specs.Lives.{life}
use Rattle.trace_lines.specs.Faults.{fault_word}
use Rattle.trace_lines.specs.Fields.{tail_word}
use Rattle.trace_lines.specs.declared.faults.Fault.{Fault}

-- CHUNK.GENERATION
abbrev pub id_text : ItemId → List ℕ
id_text id = decimal id.chunk ++ codes "." ++ decimal id.generation

-- neither mark, FETCHED, or both
abbrev pub flags_text : Head → List ℕ
flags_text head = if head.fetched then (if head.active then codes "fa" else codes "f") else codes "-"

-- ID:REFS:FLAGS:TIME
abbrev pub item_text : ℕ → Head → ℕ → List ℕ
item_text chunk head time =
    id_text (life chunk head.generation) ++ codes ":" ++ decimal head.refs ++ codes ":" ++ flags_text head
    ++ codes ":" ++ decimal time

-- A chunk of UNUSED or RETIRED is told by its number, an item of any other list whole.
abbrev pub chunk_text : Place → ℕ → Head → ℕ → List ℕ
chunk_text place.Unused chunk head time = decimal chunk
chunk_text place.Retired chunk head time = decimal chunk
chunk_text _ chunk head time = item_text chunk head time

-- the word of a list
abbrev pub place_word : Place → List ℕ
place_word place.Hot = codes "hot"
place_word place.Warm = codes "warm"
place_word place.Cold = codes "cold"
place_word place.Temp = codes "temp"
place_word place.Dying = codes "dying"
place_word place.Unused = codes "unused"
place_word place.Retired = codes "retired"

-- The list of TEMP is told of only where it isn't empty.
abbrev pub is_shown : Place → ℕ → Bool
is_shown place.Temp size = nat_lt 0 size
is_shown _ size = true

-- class CLASS LIST SIZE
abbrev pub list_start : ℕ → Place → ℕ → List ℕ
list_start class list size =
    codes "class " ++ decimal class ++ codes " " ++ place_word list ++ codes " " ++ decimal size

-- attempted A accepted B full C busy D refs E applied F
abbrev pub accounts_text : Accounts → ℕ → List ℕ
accounts_text accounts applied =
    codes "attempted " ++ decimal accounts.attempted ++ codes " accepted " ++ decimal accounts.accepted
    ++ codes " full " ++ decimal accounts.full ++ codes " busy " ++ decimal accounts.busy
    ++ codes " refs " ++ decimal accounts.refs ++ codes " applied " ++ decimal applied

-- worker WORKER ACCOUNTS
abbrev pub accounts_line : ℕ → Accounts → ℕ → List ℕ
accounts_line worker accounts applied =
    codes "worker " ++ decimal worker ++ codes " " ++ accounts_text accounts applied ++ codes "\n"

-- what a hit did
abbrev pub touch_text : Touch → List ℕ
touch_text touch.First = codes "first"
touch_text touch.Already = codes "already"
touch_text touch.Marked = codes "marked"
touch_text (touch.Queued number) = codes "queued " ++ decimal number
touch_text (touch.Dropped Full) = codes "dropped full"
touch_text (touch.Dropped Busy) = codes "dropped busy"
touch_text (touch.Dropped RefsFull) = codes "dropped refs"
touch_text touch.Exhausted = codes "exhausted"

-- what a pull did
abbrev pub pulled_text : Pulled → List ℕ
pulled_text pulled.Empty = codes "empty"
pulled_text (pulled.Stay id) = codes "stay " ++ id_text id
pulled_text (pulled.Warm id) = codes "warm " ++ id_text id
pulled_text (pulled.Again id) = codes "again " ++ id_text id
pulled_text (pulled.Cold id) = codes "cold " ++ id_text id
pulled_text (pulled.Freed id) = codes "freed " ++ id_text id
pulled_text (pulled.Deferred id) = codes "deferred " ++ id_text id

-- what applying a bump did
abbrev pub applied_text : Applied → List ℕ
applied_text Moved = codes "warm"
applied_text TimeOnly = codes "time"
applied_text (Gone Freed) = codes "gone freed"
applied_text (Gone Deferred) = codes "gone deferred"

-- NUMBER ID, and what applying the bump did
abbrev pub entry_text : Entry → List ℕ
entry_text entry = decimal entry.number ++ codes " " ++ id_text entry.life ++ codes " " ++ applied_text entry.applied

-- How each answer is told. A hold that was given back, a ring that was closed, and a bump that isn't there, are told by
-- no words.
abbrev pub answer_text : Answer → List ℕ
answer_text (answer.Linked id) = id_text id
answer_text answer.NoFreeChunk = codes "full"
answer_text (answer.Ended Freed) = codes "freed"
answer_text (answer.Ended Deferred) = codes "deferred"
answer_text answer.NotLinked = codes "gone"
answer_text (answer.Swept count) = decimal count
answer_text (answer.Pulled what) = pulled_text what
answer_text answer.Held = codes "held"
answer_text answer.NoSuchChunk = codes "miss"
answer_text answer.Stale = codes "miss"
answer_text answer.RefsFull = codes "refs"
answer_text (answer.Touched what) = touch_text what
answer_text (answer.Label label) = decimal label
answer_text answer.Done = []
answer_text (answer.Bumped entry) = entry_text entry
answer_text answer.Nothing = []

-- how it is told what a worker's command answered, or that the worker is closed
abbrev pub answer_told : Option Answer → List ℕ
answer_told None = codes "closed"
answer_told (Some given) = answer_text given

-- the word of a link, by where its item begins
abbrev pub link_word : Start → List ℕ
link_word start.Hot = codes "set"
link_word start.Temp = codes "temp"

-- set NAME or temp NAME, and the answer
abbrev pub set_line : Start → List ℕ → Answer → List ℕ
set_line begins name given = link_word begins ++ codes " " ++ name ++ codes " " ++ answer_text given ++ codes "\n"

-- get WORKER NAME
abbrev pub get_start : ℕ → List ℕ → List ℕ
get_start worker name = codes "get " ++ decimal worker ++ codes " " ++ name ++ codes " "

-- get WORKER NAME, and the answer
abbrev pub get_line : ℕ → List ℕ → Option Answer → List ℕ
get_line worker name given = get_start worker name ++ answer_told given ++ codes "\n"

-- get WORKER NAME busy: all tries to take a hold failed
abbrev pub busy_get_line : ℕ → List ℕ → List ℕ
busy_get_line worker name = get_start worker name ++ codes "busy\n"

-- get WORKER NAME LABEL HIT, of an item that was held
abbrev pub get_held_line : ℕ → List ℕ → Answer → Answer → List ℕ
get_held_line worker name label hit =
    get_start worker name ++ answer_text label ++ codes " " ++ answer_text hit ++ codes "\n"

-- hold WORKER NAME HOLD, and the answer
abbrev pub hold_line : ℕ → List ℕ → List ℕ → Option Answer → List ℕ
hold_line worker name hold given =
    codes "hold " ++ decimal worker ++ codes " " ++ name ++ codes " " ++ hold ++ codes " " ++ answer_told given ++ codes "\n"

-- hold WORKER NAME HOLD busy: all tries to take a hold failed
abbrev pub busy_hold_line : ℕ → List ℕ → List ℕ → List ℕ
busy_hold_line worker name hold =
    codes "hold " ++ decimal worker ++ codes " " ++ name ++ codes " " ++ hold ++ codes " busy\n"

-- hit WORKER HOLD, and the answer
abbrev pub hit_line : ℕ → List ℕ → Option Answer → List ℕ
hit_line worker hold given =
    codes "hit " ++ decimal worker ++ codes " " ++ hold ++ codes " " ++ answer_told given ++ codes "\n"

-- read HOLD, and the answer
abbrev pub read_line : List ℕ → Answer → List ℕ
read_line hold given = codes "read " ++ hold ++ codes " " ++ answer_text given ++ codes "\n"

-- drop HOLD
abbrev pub drop_line : List ℕ → List ℕ
drop_line hold = codes "drop " ++ hold ++ codes "\n"

-- del NAME, and the answer
abbrev pub del_line : List ℕ → Answer → List ℕ
del_line name given = codes "del " ++ name ++ codes " " ++ answer_text given ++ codes "\n"

-- pull CLASS SEGMENT, and the answer
abbrev pub pull_line : ℕ → Tail → Answer → List ℕ
pull_line class tail given =
    codes "pull " ++ decimal class ++ codes " " ++ tail_word tail ++ codes " " ++ answer_text given ++ codes "\n"

-- sweep CLASS, and the answer
abbrev pub sweep_line : ℕ → Answer → List ℕ
sweep_line class given = codes "sweep " ++ decimal class ++ codes " " ++ answer_text given ++ codes "\n"

-- bump WORKER NUMBER ID, and what it did
abbrev pub bump_line : ℕ → Entry → List ℕ
bump_line worker entry = codes "bump " ++ decimal worker ++ codes " " ++ entry_text entry ++ codes "\n"

-- drain COUNT
abbrev pub drain_line : ℕ → List ℕ
drain_line count = codes "drain " ++ decimal count ++ codes "\n"

-- moves CLASS WORKER COUNT
abbrev pub moves_line : ℕ → ℕ → ℕ → List ℕ
moves_line class worker count = codes "moves " ++ decimal class ++ codes " " ++ decimal worker ++ codes " "
    ++ decimal count ++ codes "\n"

-- close WORKER
abbrev pub close_start : ℕ → List ℕ
close_start worker = codes "close " ++ decimal worker ++ codes " "

-- close WORKER, of a worker that was closed before
abbrev pub closed_line : ℕ → List ℕ
closed_line worker = close_start worker ++ answer_told None ++ codes "\n"

-- line NUMBER: WORD
abbrev pub fault_line : ℕ → Fault → List ℕ
fault_line number fault = codes "line " ++ decimal number ++ codes ": " ++ fault_word fault ++ codes "\n"
