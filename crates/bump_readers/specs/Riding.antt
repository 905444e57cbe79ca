-- What a call of `ride` comes to, by the heads that it found: the first one by its load, and more by the exchanges that
-- failed, in order.
use Rattle.std.specs.Prelude.{◌≡◌, ℕ, List, Option, Some, None, Result, option_map}
use Rattle.std.specs.Result.{result_err}
use Rattle.bump_rules.specs.declared.commands.Dropped.{Dropped}
use Rattle.bump_rules.specs.declared.items.Head.{Head}
use Rattle.bump_rules.specs.declared.items.ItemId.{ItemId}
use Rattle.bump_steps.specs.declared.refusals.RideRefusal.{RideRefusal}
use Rattle.bump_steps.specs.declared.views.Ride.{Ride}
use Rattle.bump_steps.specs.declared.views.WorkerSheet.{WorkerSheet}
use Rattle.bump_readers.specs.declared.views.WorkerView.{WorkerView}
use Rattle.bump_steps.specs.Rides.{dropped_as, sent}
use Rattle.bump_steps.specs.Tries.{RideFound, drop_of, worker_after_attempt}

-- a bump that isn't dropped is sent off, and counts as accepted
abbrev pub sent_unless : Option Dropped → WorkerSheet → WorkerSheet
sent_unless None worker = sent worker
sent_unless (Some why) worker = worker

abbrev pub ride_of : WorkerView → ℕ → ItemId → Ride
ride_of worker number item = record { worker = worker.sheet.worker; number = number; life = item }

-- what a call of `ride` comes to that found these heads
pub record Rode (limit : ℕ) (item : ItemId) (before after : WorkerView) (answered : Result Ride RideRefusal)
    (first : Head) (more : List Head)
    : Type 0 where
  pub found : RideFound limit item first more
  -- the worker has these steps more, and what the last of them made of its hand and accounts
  pub worker : after ≡ record before
      { sheet = sent_unless (drop_of limit first more) (worker_after_attempt limit item first more before.sheet) }
  -- it is refused exactly where the bump is dropped, and for that
  pub answer : option_map dropped_as (result_err answered) ≡ drop_of limit first more
