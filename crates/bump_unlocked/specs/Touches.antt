-- A touch: what it answers by the words that its own steps found, which steps it makes, and what it leaves.
use Rattle.std.specs.Prelude.{◌≡◌, ℕ, ◌+◌, ◌<◌, ◌≤◌, Bool, true, false, List, [], ◌∷◌, ◌++◌, length, Option, None}
use Rattle.bump_rules.specs.declared.configs.Config.{Config}
use Rattle.bump_rules.specs.declared.items.Head.{Head}
use Rattle.bump_rules.specs.declared.items.ItemId.{ItemId}
use Rattle.bump_rules.specs.declared.commands.Dropped.{Dropped}
use Rattle.bump_rules.specs.declared.commands.Dropped.TheVariants as dropped
use Rattle.bump_rules.specs.declared.commands.Room.{Room}
use Rattle.bump_rules.specs.declared.commands.Room.TheVariants.{Unknown}
use Rattle.bump_rules.specs.declared.commands.Touch.{Touch}
use Rattle.bump_rules.specs.declared.commands.Touch.TheVariants as touch
use Rattle.bump_rules.specs.Lives.{count_of}
use Rattle.bump_rules.specs.Rings.{most_attempts}
use Rattle.bump_rules.specs.Tables.{hit_of, makes_second, dropped_of, touch_of}
use Rattle.bump_word.specs.Words.{Fits, word_of}
use Rattle.bump_steps.specs.declared.views.Kind.{Kind}
use Rattle.bump_steps.specs.declared.views.Kind.TheVariants as kind
use Rattle.bump_steps.specs.declared.views.OwnStep.{OwnStep}
use Rattle.bump_steps.specs.declared.views.Ride.{Ride}
use Rattle.bump_steps.specs.declared.views.WorkerSheet.{WorkerSheet}
use Rattle.bump_steps.specs.Plays.{step_of}
use Rattle.bump_steps.specs.Tries.{RideFound, last_found, load_and_failures}
use Rattle.bump_unlocked.specs.Counts.{counted_touch}
use Rattle.bump_unlocked.specs.Workers.{WorkerState}

-- What the steps of a touch found. Of a step that wasn't made it says nothing.
pub record Findings : Type 0 where
  -- the heads found by setting FETCHED, and by setting ACTIVE
  pub first : Head
  pub second : Head
  -- those found by the load that looked for a reference, and by each exchange that failed, in order
  pub look : Head
  pub failed : List Head
  -- whether the ring had room
  pub room : Room
  -- those found by giving the reference back, and by clearing ACTIVE
  pub back : Head
  pub cleared : Head

-- ---- the answer

-- the head by which a reference was taken, or was found to be at its limit
abbrev pub decisive : Findings → Head
decisive found = last_found found.look found.failed

-- why an attempt ends in a drop, if it does, by the rule of an attempt
abbrev pub why_dropped : ℕ → Findings → Option Dropped
why_dropped limit found = dropped_of limit (length found.failed) (decisive found) found.room

-- by the hit table and the rule of an attempt, where the ring accepted so many bumps before
abbrev pub touch_answer : ℕ → Findings → ℕ → Touch
touch_answer limit found accepted = touch_of (hit_of found.first found.second) (why_dropped limit found) accepted

-- whether a touch with this answer attempted a bump
abbrev pub is_attempted : Touch → Bool
is_attempted (touch.Queued number) = true
is_attempted (touch.Dropped why) = true
is_attempted touch.First = false
is_attempted touch.Already = false
is_attempted touch.Marked = false
is_attempted touch.Exhausted = false

-- ---- the steps

-- a step on the head word of the item, which found this head
abbrev pub own_step : Kind → ItemId → Head → OwnStep
own_step kind item head = step_of kind item.chunk (word_of head) None

-- that which sets ACTIVE, if it is made
abbrev pub second_steps : Bool → ItemId → Findings → List OwnStep
second_steps true item found = own_step kind.Mark item found.second ∷ []
second_steps false item found = []

-- the end of an attempt that is dropped: for want of room the reference was taken, and is given back
abbrev pub drop_steps : Dropped → ItemId → Findings → List OwnStep
drop_steps dropped.Full item found =
    own_step kind.Reserve item (decisive found)
    ∷ own_step kind.GiveBackBump item found.back
    ∷ own_step kind.Unmark item found.cleared
    ∷ []
drop_steps dropped.Busy item found = own_step kind.Unmark item found.cleared ∷ []
drop_steps dropped.RefsFull item found = own_step kind.Unmark item found.cleared ∷ []

-- the end of an attempt, behind the load and the exchanges that failed
abbrev pub end_steps : Touch → ItemId → Findings → List OwnStep
end_steps (touch.Queued number) item found = own_step kind.Reserve item (decisive found) ∷ []
end_steps (touch.Dropped why) item found = drop_steps why item found
end_steps touch.First item found = []
end_steps touch.Already item found = []
end_steps touch.Marked item found = []
end_steps touch.Exhausted item found = []

abbrev pub attempt_steps : Touch → ItemId → Findings → List OwnStep
attempt_steps answered item found = load_and_failures item.chunk found.look found.failed ++ end_steps answered item found

-- what a touch makes behind its first step, by its answer
abbrev pub later_steps : Touch → ItemId → ℕ → Findings → List OwnStep
later_steps touch.Already item now found = second_steps (makes_second found.first) item found
later_steps touch.Marked item now found =
    own_step kind.Mark item found.second ∷ step_of kind.StoreTime item.chunk now None ∷ []
later_steps (touch.Queued number) item now found =
    own_step kind.Mark item found.second ∷ attempt_steps (touch.Queued number) item found
later_steps (touch.Dropped why) item now found =
    own_step kind.Mark item found.second ∷ attempt_steps (touch.Dropped why) item found
later_steps touch.First item now found = []
later_steps touch.Exhausted item now found = []

-- all steps of a touch that isn't exhausted
abbrev pub touch_steps : Touch → ItemId → ℕ → Findings → List OwnStep
touch_steps answered item now found = own_step kind.Fetch item found.first ∷ later_steps answered item now found

-- ---- what else it leaves, by its answer

-- the items that the worker hit first
abbrev pub first_hits : Touch → ItemId → List ItemId → List ItemId
first_hits touch.First item hits = hits ++ item ∷ []
first_hits touch.Already item hits = hits
first_hits touch.Marked item hits = hits
first_hits (touch.Queued number) item hits = hits
first_hits (touch.Dropped why) item hits = hits
first_hits touch.Exhausted item hits = hits

-- the bump that the ring accepted, if it accepted one
abbrev pub queued : Touch → ℕ → ItemId → List Ride
queued (touch.Queued number) worker item = record { worker = worker; number = number; life = item } ∷ []
queued touch.First worker item = []
queued touch.Already worker item = []
queued touch.Marked worker item = []
queued (touch.Dropped why) worker item = []
queued touch.Exhausted worker item = []

abbrev pub touched_sheet : Touch → ItemId → ℕ → Findings → WorkerSheet → WorkerSheet
touched_sheet answered item now found sheet = record sheet {
  accounts = counted_touch answered sheet.accounts;
  hits = first_hits answered item sheet.hits;
  steps = sheet.steps ++ touch_steps answered item now found;
}

abbrev pub touched : Touch → ItemId → ℕ → Findings → WorkerState → WorkerState
touched answered item now found worker = record {
  sheet = touched_sheet answered item now found worker.sheet;
  sender = record worker.sender { sent = worker.sender.sent ++ queued answered worker.sheet.worker item };
}

-- ---- the whole

-- the head of an item that is held
pub record IsHeadOf (item : ItemId) (head : Head) : Type 0 where
  pub fits : Fits head
  pub generation : head.generation ≡ item.generation
  pub held : 0 < head.refs

-- What was found by the steps that a touch with this answer makes is of the item.
pub record AreFindings (limit : ℕ) (item : ItemId) (answered : Touch) (found : Findings) : Type 0 where
  pub first : IsHeadOf item found.first
  pub second : makes_second found.first ≡ true → IsHeadOf item found.second
  -- each exchange expected the head found before it, by which there was room, and found another; at most 8 failed
  pub looks : is_attempted answered ≡ true → RideFound limit item found.look found.failed
  pub back : answered ≡ touch.Dropped dropped.Full → IsHeadOf item found.back
  pub cleared : (why : Dropped) → answered ≡ touch.Dropped why → IsHeadOf item found.cleared
  -- FETCHED is set after a drop
  pub fetched : (why : Dropped) → answered ≡ touch.Dropped why → found.cleared.fetched ≡ true

-- what a touch comes to whose worker isn't exhausted
pub record Touched (limit : ℕ) (item : ItemId) (now : ℕ) (before after : WorkerState) (answered : Touch)
    (found : Findings) : Type 0 where
  pub findings : AreFindings limit item answered found
  -- the ring had no room only where it had accepted at least its capacity behind the bumps known to be taken
  pub room : found.room ≡ Unknown → before.sender.shown + before.sender.capacity ≤ length before.sender.sent
  pub answer : answered ≡ touch_answer limit found (length before.sender.sent)
  pub state : after ≡ touched answered item now found before
  -- the first hit is of an item that the worker's list did not name
  pub first : answered ≡ touch.First → count_of item before.sheet.hits ≡ 0

-- a worker's touch of a held item, by the clauses `exhausted` and `touched` of `Worker::touch`
pub record WorkerTouches (config : Config) (item : ItemId) (now : ℕ) (before after : WorkerState)
    (answer : Touch) : Type 0 where
  pub exhausted : before.sheet.accounts.attempted ≡ most_attempts → (answer ≡ touch.Exhausted) × (after ≡ before)
  pub touched : before.sheet.accounts.attempted < most_attempts → (found : Findings)
      × Touched config.refs_limit item now before after answer found
