-- How C reads what is answered: numbers in the order of the enums of c/bump.h, and plain records.
use Rattle.std.specs.Prelude.{ℕ, Bool, false, ◌&&◌, ◌==◌, if◌then◌else◌, List, replicate, Option, Some, None, unwrap_or}
use Rattle.std.specs.Prelude.{Result, Ok, Err}
use Rattle.bump_rules.specs.declared.bumps.Accounts.{Accounts}
use Rattle.bump_rules.specs.declared.bumps.Ended.{Ended}
use Rattle.bump_rules.specs.declared.bumps.Ended.TheVariants as ended
use Rattle.bump_rules.specs.declared.commands.Dropped.TheVariants as dropped
use Rattle.bump_rules.specs.declared.commands.Pulled.{Pulled}
use Rattle.bump_rules.specs.declared.commands.Pulled.TheVariants as pulled
use Rattle.bump_rules.specs.declared.commands.Touch.{Touch}
use Rattle.bump_rules.specs.declared.commands.Touch.TheVariants as touch
use Rattle.bump_rules.specs.declared.configs.ConfigFault.{ConfigFault}
use Rattle.bump_rules.specs.declared.configs.ConfigFault.TheVariants as fault
use Rattle.bump_rules.specs.declared.items.Head.{Head}
use Rattle.bump_rules.specs.declared.items.ItemId.{ItemId}
use Rattle.bump_rules.specs.declared.places.Segment.{Segment}
use Rattle.bump_rules.specs.declared.places.Segment.TheVariants as segment
use Rattle.bump_rules.specs.declared.places.Tail.{Tail}
use Rattle.bump_rules.specs.declared.places.Tail.TheVariants as tail
use Rattle.bump_class.specs.declared.ending.UnlinkRefusal.{UnlinkRefusal}
use Rattle.bump_class.specs.declared.ending.UnlinkRefusal.TheVariants as unlink
use Rattle.bump_class.specs.declared.linking.LinkRefusal.{LinkRefusal}
use Rattle.bump_class.specs.declared.running.RunEnd.{RunEnd}
use Rattle.bump_unlocked.specs.declared.refusals.GetRefusal.{GetRefusal}
use Rattle.bump_unlocked.specs.declared.refusals.GetRefusal.TheVariants as refused
use Rattle.bump_handles.specs.declared.drainers.NotClosed.{NotClosed}
use Rattle.bump_handles.specs.declared.drainers.NotClosed.TheVariants as not_closed
use Rattle.bump_handles.specs.declared.drainers.OtherClass.{OtherClass}
use Rattle.bump_handles.specs.declared.drainers.Rested.{Rested}
use Rattle.bump_handles.specs.declared.drainers.RestState.{RestState}
use Rattle.bump_handles.specs.declared.drainers.RestState.TheVariants as rest
use Rattle.bump_handles.specs.declared.linking.WordsRefusal.{WordsRefusal}
use Rattle.bump_handles.specs.declared.linking.WordsRefusal.TheVariants as with_words
use Rattle.bump_handles.specs.declared.looking.NotThere.{NotThere}
use Rattle.bump_handles.specs.declared.looking.Sight.{Sight}
use Rattle.bump_handles.specs.declared.looking.Walked.{Walked}
use Rattle.bump_handles.specs.declared.readers.Taken.{Taken}
use Rattle.bump_handles.specs.declared.readers.Taken.TheVariants as taken
use Rattle.bump_handles.specs.declared.readers.WholeHit.{WholeHit}
use Rattle.bump_c.specs.declared.answers.Counts.{Counts}
use Rattle.bump_c.specs.declared.answers.HitTold.{HitTold}
use Rattle.bump_c.specs.declared.answers.Labelled.{Labelled}
use Rattle.bump_c.specs.declared.answers.LinkTold.{LinkTold}
use Rattle.bump_c.specs.declared.answers.MarksTold.{MarksTold}
use Rattle.bump_c.specs.declared.answers.PullTold.{PullTold}
use Rattle.bump_c.specs.declared.answers.Ran.{Ran}
use Rattle.bump_c.specs.declared.answers.RanTold.{RanTold}
use Rattle.bump_c.specs.declared.answers.RestTold.{RestTold}
use Rattle.bump_c.specs.declared.answers.Seen.{Seen}
use Rattle.bump_c.specs.declared.answers.TimeTold.{TimeTold}
use Rattle.bump_c.specs.declared.answers.Touched.{Touched}
use Rattle.bump_c.specs.declared.answers.UnlinkTold.{UnlinkTold}
use Rattle.bump_c.specs.declared.answers.WalkTold.{WalkTold}
use Rattle.bump_c.specs.declared.answers.WordsTold.{WordsTold}

-- ---- a reader's calls

abbrev pub number_of_segment : Segment → ℕ
number_of_segment segment.Hot = 0
number_of_segment segment.Warm = 1
number_of_segment segment.Cold = 2
number_of_segment segment.Temp = 3

abbrev pub number_of_taken : Taken → ℕ
number_of_taken taken.Held = 0
number_of_taken taken.NoPlace = 1
number_of_taken taken.NoSuchChunk = 2
number_of_taken taken.Stale = 3
number_of_taken taken.RefsFull = 4
number_of_taken taken.Busy = 5

abbrev pub number_of_refusal : GetRefusal → ℕ
number_of_refusal refused.NoSuchChunk = 2
number_of_refusal refused.Stale = 3
number_of_refusal refused.RefsFull = 4
number_of_refusal refused.Busy = 5

abbrev pub number_of_touch : Touch → ℕ
number_of_touch touch.First = 0
number_of_touch touch.Already = 1
number_of_touch touch.Marked = 2
number_of_touch (touch.Queued number) = 3
number_of_touch (touch.Dropped dropped.Full) = 4
number_of_touch (touch.Dropped dropped.Busy) = 5
number_of_touch (touch.Dropped dropped.RefsFull) = 6
number_of_touch touch.Exhausted = 7

-- which of the worker's accepted bumps was queued, or 0
abbrev pub bump_of_touch : Touch → ℕ
bump_of_touch touch.First = 0
bump_of_touch touch.Already = 0
bump_of_touch touch.Marked = 0
bump_of_touch (touch.Queued number) = number
bump_of_touch (touch.Dropped why) = 0
bump_of_touch touch.Exhausted = 0

-- 8: no item is held there
abbrev pub touched_of : Option Touch → Touched
touched_of None = record { answer = 8; number = 0 }
touched_of (Some answer) = record { answer = number_of_touch answer; number = bump_of_touch answer }

abbrev pub labelled_of : Option ℕ → Labelled
labelled_of None = record { answer = 1; label = 0 }
labelled_of (Some label) = record { answer = 0; label = label }

abbrev pub marks_of : Option Head → MarksTold
marks_of None = record { answer = 1; refs = 0; segment = 0; linked = false; fetched = false; active = false }
marks_of (Some head) = record {
  answer = 0;
  refs = head.refs;
  segment = number_of_segment head.segment;
  linked = head.linked;
  fetched = head.fetched;
  active = head.active;
}

-- an item is held, and it has both marks
abbrev pub has_both_marks : Option Head → Bool
has_both_marks None = false
has_both_marks (Some head) = head.fetched && head.active

abbrev pub time_of : Option ℕ → TimeTold
time_of None = record { answer = 1; time = 0 }
time_of (Some time) = record { answer = 0; time = time }

abbrev pub words_of : Option ℕ → List ℕ → WordsTold
words_of None words = record { answer = 1; count = 0; words = words }
words_of (Some count) words = record { answer = 0; count = count; words = words }

-- room for some words of an item
abbrev pub no_words : List ℕ
no_words = replicate 8 0

abbrev pub told_of_hit : Result WholeHit GetRefusal → HitTold
told_of_hit (Ok whole) = record { got = 0; touch = number_of_touch whole.touch; label = whole.label }
told_of_hit (Err refusal) = record { got = number_of_refusal refusal; touch = 8; label = 0 }

abbrev pub counts_of : Accounts → Counts
counts_of accounts = record {
  attempted = accounts.attempted;
  accepted = accounts.accepted;
  full = accounts.full;
  busy = accounts.busy;
  refs = accounts.refs;
}

abbrev pub number_of_not_closed : NotClosed → ℕ
number_of_not_closed not_closed.OtherStore = 1
number_of_not_closed not_closed.OtherWorker = 2
number_of_not_closed not_closed.HoldsOut = 3
number_of_not_closed not_closed.Twice = 4

-- 0: it is closed
abbrev pub number_of_close : Option NotClosed → ℕ
number_of_close None = 0
number_of_close (Some why) = number_of_not_closed why

-- ---- a class's calls

abbrev pub link_of_item : ItemId → LinkTold
link_of_item item = record { answer = 0; chunk = item.chunk; generation = item.generation }

abbrev pub not_linked_as : ℕ → LinkTold
not_linked_as number = record { answer = number; chunk = 0; generation = 0 }

abbrev pub linked_of : Result ItemId LinkRefusal → LinkTold
linked_of (Ok item) = link_of_item item
linked_of (Err refusal) = not_linked_as 1

abbrev pub words_linked_of : Result ItemId WordsRefusal → LinkTold
words_linked_of (Ok item) = link_of_item item
words_linked_of (Err with_words.NoFreeChunk) = not_linked_as 1
words_linked_of (Err with_words.TooMany) = not_linked_as 2

abbrev pub unlinked_of : Result (Ended × ℕ) UnlinkRefusal → UnlinkTold
unlinked_of (Ok (ended.Freed, label)) = record { answer = 0; label = label }
unlinked_of (Ok (ended.Deferred, label)) = record { answer = 1; label = label }
unlinked_of (Err unlink.NoSuchChunk) = record { answer = 2; label = 0 }
unlinked_of (Err unlink.NotLinked) = record { answer = 3; label = 0 }

abbrev pub number_of_tail : Tail → ℕ
number_of_tail tail.Hot = 0
number_of_tail tail.Warm = 1
number_of_tail tail.Cold = 2
number_of_tail tail.Evict = 3

abbrev pub pulled_as : ℕ → ItemId → ℕ → PullTold
pulled_as number item label =
    record { answer = number; chunk = item.chunk; generation = item.generation; label = label }

abbrev pub told_of_pulled : Pulled → ℕ → PullTold
told_of_pulled pulled.Empty label = record { answer = 0; chunk = 0; generation = 0; label = label }
told_of_pulled (pulled.Stay item) label = pulled_as 1 item label
told_of_pulled (pulled.Warm item) label = pulled_as 2 item label
told_of_pulled (pulled.Again item) label = pulled_as 3 item label
told_of_pulled (pulled.Cold item) label = pulled_as 4 item label
told_of_pulled (pulled.Freed item) label = pulled_as 5 item label
told_of_pulled (pulled.Deferred item) label = pulled_as 6 item label

abbrev pub no_such_tail : PullTold
no_such_tail = record { answer = 7; chunk = 0; generation = 0; label = 0 }

-- a number that may be left out: the greatest of 32 bits stands for none
abbrev pub given_of : ℕ → Option ℕ
given_of number = if number == 4294967295 then None else Some number

abbrev pub not_seen : ℕ → Seen
not_seen number = record {
  answer = number;
  chunk = 0;
  generation = 0;
  refs = 0;
  segment = 0;
  time = 0;
  label = 0;
  linked = false;
  fetched = false;
  active = false;
}

abbrev pub sight_of : Sight → Seen
sight_of it = record {
  answer = 0;
  chunk = it.chunk;
  generation = it.head.generation;
  refs = it.head.refs;
  segment = number_of_segment it.head.segment;
  time = it.time;
  label = it.label;
  linked = it.head.linked;
  fetched = it.head.fetched;
  active = it.head.active;
}

abbrev pub seen_of : Option Sight → Seen
seen_of None = not_seen 1
seen_of (Some it) = sight_of it

-- 1: the given chunk isn't in the list; 2: there is none to look at
abbrev pub looked_of : Result (Option Sight) NotThere → Seen
looked_of (Err why) = not_seen 1
looked_of (Ok None) = not_seen 2
looked_of (Ok (Some it)) = sight_of it

abbrev pub no_such_list : Seen
no_such_list = not_seen 3

-- room for the chunks that a call tells
abbrev pub no_chunks : List ℕ
no_chunks = replicate 32 0

abbrev pub walked_of : Result Walked NotThere → List ℕ → WalkTold
walked_of (Err why) chunks = record { answer = 1; count = 0; next = 4294967295; chunks = chunks }
walked_of (Ok walked) chunks =
    record { answer = 0; count = walked.count; next = unwrap_or walked.next 4294967295; chunks = chunks }

abbrev pub no_such_walk : WalkTold
no_such_walk = record { answer = 2; count = 0; next = 4294967295; chunks = no_chunks }

-- the greatest number of 64 bits: there is no such worker
abbrev pub moves_of_answer : Option ℕ → ℕ
moves_of_answer None = 18446744073709551615
moves_of_answer (Some moves) = moves

-- ---- a lane's calls

-- the greatest number of 32 bits: none is known
abbrev pub class_of_answer : Option ℕ → ℕ
class_of_answer None = 4294967295
class_of_answer (Some class) = class

-- 2: the next bump is of another class
abbrev pub run_of : Result ℕ OtherClass → Ran
run_of (Ok applied) = record { answer = 0; applied = applied }
run_of (Err why) = record { answer = 2; applied = 0 }

abbrev pub freeing_run_of : Result RunEnd OtherClass → List ℕ → RanTold
freeing_run_of (Ok end) chunks = record { answer = 0; applied = end.applied; freed = end.freed; chunks = chunks }
freeing_run_of (Err why) chunks = record { answer = 2; applied = 0; freed = 0; chunks = chunks }

-- 1: book and lane are of two stores
abbrev pub other_store : Ran
other_store = record { answer = 1; applied = 0 }

abbrev pub other_store_told : RanTold
other_store_told = record { answer = 1; applied = 0; freed = 0; chunks = no_chunks }

abbrev pub number_of_rest : RestState → ℕ
number_of_rest rest.Settled = 0
number_of_rest rest.Open = 1
number_of_rest rest.Left = 2
number_of_rest rest.Unseen = 3
number_of_rest rest.Gone = 4

abbrev pub rest_of : Rested → RestTold
rest_of rested = record {
  answer = number_of_rest rested.state;
  left = rested.left;
  counts = counts_of rested.counts;
  applied = rested.applied;
}

-- ---- opening

abbrev pub number_of_fault : ConfigFault → ℕ
number_of_fault fault.Workers = 1
number_of_fault fault.Capacity = 2
number_of_fault fault.RefsLimit = 3
number_of_fault fault.Generation = 4
number_of_fault fault.Classes = 5
number_of_fault fault.Chunks = 6
