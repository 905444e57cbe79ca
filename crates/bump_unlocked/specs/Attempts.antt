-- What a touch is made of, while the hold is joined to the worker's seat.
use Rattle.std.specs.Prelude.{◌≡◌, ℕ, ◌+◌, ◌≤◌, true, ◌++◌, length}
use Rattle.bump_rules.specs.declared.hands.Hand.TheVariants.{Idle}
use Rattle.bump_rules.specs.declared.items.ItemId.{ItemId}
use Rattle.bump_rules.specs.declared.commands.Dropped.{Dropped}
use Rattle.bump_rules.specs.declared.commands.Dropped.TheVariants.{Full}
use Rattle.bump_rules.specs.declared.commands.Room.TheVariants.{Unknown}
use Rattle.bump_rules.specs.declared.commands.Touch.{Touch}
use Rattle.bump_rules.specs.declared.commands.Touch.TheVariants as touch
use Rattle.bump_rules.specs.Lives.{count_of}
use Rattle.bump_rules.specs.Tables.{attempted_of}
use Rattle.bump_steps.specs.declared.views.WorkerSheet.{WorkerSheet}
use Rattle.bump_steps.specs.Tries.{RideFound}
use Rattle.bump_readers.specs.declared.views.WorkerView.{WorkerView}
use Rattle.bump_ring.specs.Ends.{SenderView}
use Rattle.bump_unlocked.specs.Counts.{counted_touch_end}
use Rattle.bump_unlocked.specs.Touches.{Findings, AreFindings, IsHeadOf, why_dropped, touch_answer, attempt_steps, queued}
use Rattle.bump_unlocked.specs.Touches.{touched_sheet}

-- the worker is idle again
abbrev pub attempted_sheet : Touch → ItemId → Findings → WorkerSheet → WorkerSheet
attempted_sheet answered item found sheet = record sheet {
  hand = Idle;
  accounts = counted_touch_end answered sheet.accounts;
  steps = sheet.steps ++ attempt_steps answered item found;
}

abbrev pub offered : Touch → ItemId → WorkerView → SenderView → SenderView
offered answered item worker sender = record sender { sent = sender.sent ++ queued answered worker.sheet.worker item }

-- an attempt, by its own findings
pub record Attempted (limit : ℕ) (item : ItemId) (before after : WorkerView) (sender_before sender_after : SenderView)
    (answered : Touch) (found : Findings) : Type 0 where
  pub looks : RideFound limit item found.look found.failed
  pub back : answered ≡ touch.Dropped Full → IsHeadOf item found.back
  pub cleared : (why : Dropped) → answered ≡ touch.Dropped why → IsHeadOf item found.cleared
  pub fetched : (why : Dropped) → answered ≡ touch.Dropped why → found.cleared.fetched ≡ true
  pub room : found.room ≡ Unknown → sender_before.shown + sender_before.capacity ≤ length sender_before.sent
  pub answer : answered ≡ attempted_of (why_dropped limit found) (length sender_before.sent)
  pub sheet : after ≡ record before { sheet = attempted_sheet answered item found before.sheet }
  pub sender : sender_after ≡ offered answered item before sender_before

-- a hit
pub record Hit (limit : ℕ) (item : ItemId) (now : ℕ) (before after : WorkerView)
    (sender_before sender_after : SenderView) (answered : Touch) (found : Findings) : Type 0 where
  pub findings : AreFindings limit item answered found
  pub room : found.room ≡ Unknown → sender_before.shown + sender_before.capacity ≤ length sender_before.sent
  pub answer : answered ≡ touch_answer limit found (length sender_before.sent)
  pub sheet : after ≡ record before { sheet = touched_sheet answered item now found before.sheet }
  pub sender : sender_after ≡ offered answered item before sender_before
  pub first : answered ≡ touch.First → count_of item before.sheet.hits ≡ 0
