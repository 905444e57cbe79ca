-- The tables: what a get, a hit, an attempt, an applied bump, an end and a pull come to, by the words found.
use Rattle.std.specs.Prelude.{ℕ, Bool, true, false, not, ◌&&◌, ◌==◌, nat_lt, if◌then◌else◌, length, Option, None, Some}
use Rattle.bump_links.specs.Lists.{last_of}
use Rattle.bump_rules.specs.Places.{place_of}
use Rattle.bump_rules.specs.Lists.{Lists, list_at}
use Rattle.bump_rules.specs.declared.places.Limits.{Limits}
use Rattle.bump_rules.specs.declared.places.Segment.{Segment}
use Rattle.bump_rules.specs.declared.places.Segment.TheVariants as segment
use Rattle.bump_rules.specs.declared.places.Tail.{Tail}
use Rattle.bump_rules.specs.declared.places.Tail.TheVariants as tail
use Rattle.bump_rules.specs.declared.items.Head.{Head}
use Rattle.bump_rules.specs.declared.items.ItemId.{ItemId}
use Rattle.bump_rules.specs.declared.bumps.Ended.{Ended}
use Rattle.bump_rules.specs.declared.bumps.Ended.TheVariants.{Freed, Deferred}
use Rattle.bump_rules.specs.declared.bumps.Outcome.{Outcome}
use Rattle.bump_rules.specs.declared.bumps.Outcome.TheVariants as outcome
use Rattle.bump_rules.specs.declared.commands.Hit.{Hit}
use Rattle.bump_rules.specs.declared.commands.Hit.TheVariants as hit
use Rattle.bump_rules.specs.declared.commands.Touch.{Touch}
use Rattle.bump_rules.specs.declared.commands.Touch.TheVariants as touch
use Rattle.bump_rules.specs.declared.commands.Dropped.{Dropped}
use Rattle.bump_rules.specs.declared.commands.Dropped.TheVariants.{Full, Busy, RefsFull}
use Rattle.bump_rules.specs.declared.commands.Room.{Room}
use Rattle.bump_rules.specs.declared.commands.Room.TheVariants.{Known, Unknown}
use Rattle.bump_rules.specs.declared.commands.Pulled.{Pulled}
use Rattle.bump_rules.specs.declared.commands.Pulled.TheVariants as pulled
use Rattle.bump_rules.specs.declared.commands.Pulled.TheVariants.{Empty, Stay, Warm, Again, Cold}

-- what a get comes to
pub data Get : Type 0 where
  IsStale : Get
  IsRefsFull : Get
  IsHeld : Get

-- the word is of a linked item of this generation
abbrev pub is_of : ℕ → Head → Bool
is_of generation found = found.linked && (found.generation == generation)

-- The get table, by the limit, the generation that is asked for, and the word found: Stale comes before RefsFull.
abbrev pub get_of : ℕ → ℕ → Head → Get
get_of limit generation found =
    if not (is_of generation found) then IsStale else (if nat_lt found.refs limit then IsHeld else IsRefsFull)

-- nobody holds the chunk
abbrev pub is_unheld : Head → Bool
is_unheld found = found.refs == 0

-- What the end of an unlinked life comes to, by the word that the load behind it found: its chunk is free where that
-- shows no reference.
abbrev pub ended_of : Head → Ended
ended_of found = if is_unheld found then Freed else Deferred

-- a list of this size is over its limit
abbrev pub is_over : ℕ → ℕ → Bool
is_over size limit = nat_lt limit size

-- whether the segment bits say COLD, or WARM
abbrev pub is_cold : Segment → Bool
is_cold segment.Cold = true
is_cold _ = false

abbrev pub is_warm : Segment → Bool
is_warm segment.Warm = true
is_warm _ = false

-- whether a step that sets ACTIVE, and found this word, attempts a bump: ACTIVE was clear in COLD
abbrev pub attempts_bump : Head → Bool
attempts_bump found = not found.active && is_cold found.segment

-- whether a hit that found this word by its first step makes the second one
abbrev pub makes_second : Head → Bool
makes_second first = first.fetched && not first.active

-- by the word that the second step found
abbrev pub hit_by_second : Head → Hit
hit_by_second second =
    if second.active then hit.Already else (if is_cold second.segment then hit.Attempts else hit.Marked)

-- The hit table, by the words that both steps found: the first one sets FETCHED, the second one ACTIVE. LINKED isn't
-- looked at.
abbrev pub hit_of : Head → Head → Hit
hit_of first second =
    if not first.fetched then hit.First else (if first.active then hit.Already else hit_by_second second)

-- after so many exchanges that failed no more are tried
abbrev pub most_exchanges : ℕ
most_exchanges = 8

-- Why no reference is taken for a bump, if none is, by the limit, by how many exchanges failed, and by the word that
-- the last of them found, or the load before them: the eighth that fails is the last, whatever word it found, and
-- else the count is at the limit.
abbrev pub refused_of : ℕ → ℕ → Head → Option Dropped
refused_of limit failed found =
    if failed == most_exchanges then Some Busy else (if nat_lt found.refs limit then None else Some RefsFull)

-- the ring's room decides where a reference was taken
abbrev pub dropped_for_room : Room → Option Dropped → Option Dropped
dropped_for_room room (Some dropped) = Some dropped
dropped_for_room Known None = None
dropped_for_room Unknown None = Some Full

-- The rule of an attempt: why the bump is dropped, if it is. First a reference is taken, and then the bump is pushed.
abbrev pub dropped_of : ℕ → ℕ → Head → Room → Option Dropped
dropped_of limit failed found room = dropped_for_room room (refused_of limit failed found)

-- what an attempt answers: why its bump was dropped, or the number of the bump
abbrev pub attempted_of : Option Dropped → ℕ → Touch
attempted_of None number = touch.Queued number
attempted_of (Some dropped) number = touch.Dropped dropped

-- what a hit answers, by what it comes to; where it attempts a bump, by why that was dropped, if it was, and by its
-- number else
abbrev pub touch_of : Hit → Option Dropped → ℕ → Touch
touch_of hit.First dropped number = touch.First
touch_of hit.Already dropped number = touch.Already
touch_of hit.Marked dropped number = touch.Marked
touch_of hit.Attempts dropped number = attempted_of dropped number

-- The update table: what applying a bump comes to, by the word that Try found and the word that the clearing step
-- found. The second is looked at only where the first is of a linked item in COLD, so that there is a clearing step.
abbrev pub outcome_of : Head → Head → Outcome
outcome_of found cleared =
    if not found.linked then outcome.Gone
    else (if is_cold found.segment && cleared.active then outcome.Moved else outcome.TimeOnly)

-- what an evict tells of an item that it ended
abbrev pub evicted_as : Ended → ItemId → Pulled
evicted_as Freed id = pulled.Freed id
evicted_as Deferred id = pulled.Deferred id

-- an item that isn't ACTIVE leaves a list that is over its limit, and else it stays
abbrev pub cold_or_stay : ℕ → ℕ → ItemId → Pulled
cold_or_stay size limit id = if is_over size limit then Cold id else Stay id

-- The tail table: what a pull does with the last item of its list, by the word that was found of it, the lists as
-- they stand, the limits of HOT and WARM, and what the item's end comes to. COLD has no limit. An evict ends its item
-- whatever its marks.
abbrev pub pulled_of : Tail → Head → Lists → Limits → Ended → ItemId → Pulled
pulled_of tail.Hot found lists limits ended id =
    if found.active then Warm id else cold_or_stay (length lists.hot) limits.hot id
pulled_of tail.Warm found lists limits ended id =
    if found.active then Again id else cold_or_stay (length lists.warm) limits.warm id
pulled_of tail.Cold found lists limits ended id = if found.active then Warm id else Stay id
pulled_of tail.Evict found lists limits ended id = evicted_as ended id

-- the segment to whose front a pull moves the item, if it moves it
abbrev pub pulled_to : Pulled → Option Segment
pulled_to Empty = None
pulled_to (Stay id) = None
pulled_to (Warm id) = Some segment.Warm
pulled_to (Again id) = Some segment.Warm
pulled_to (Cold id) = Some segment.Cold
pulled_to (pulled.Freed id) = None
pulled_to (pulled.Deferred id) = None

-- the segment of the list that a pull looks at
abbrev pub segment_of : Tail → Segment
segment_of tail.Hot = segment.Hot
segment_of tail.Warm = segment.Warm
segment_of tail.Cold = segment.Cold
segment_of tail.Evict = segment.Cold

-- the last chunk of that list, which a pull looks at
abbrev pub last_pulled : Tail → Lists → Option ℕ
last_pulled from lists = last_of (list_at lists (place_of (segment_of from)))

-- a pull may move an item so
abbrev pub may_move : Segment → Segment → Bool
may_move segment.Hot segment.Warm = true
may_move segment.Hot segment.Cold = true
may_move segment.Warm segment.Warm = true
may_move segment.Warm segment.Cold = true
may_move segment.Cold segment.Warm = true
may_move _ _ = false
