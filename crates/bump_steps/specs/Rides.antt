-- The steps by which a worker takes the reference of a bump, sends it off, has it back and drops it. Those on the head
-- word are made by the worker's seat with the hold joined to it. They are told what no view has: the limit, the life,
-- and how many exchanges have failed if this step does.
use Rattle.std.specs.Prelude.{◌≡◌, ◌≢◌, ℕ, ◌+◌, ◌-◌, ◌<◌, ◌≤◌, List, [], ◌∷◌, Option, Some, None}
use Rattle.bump_rules.specs.declared.items.Head.{Head}
use Rattle.bump_rules.specs.declared.items.ItemId.{ItemId}
use Rattle.bump_rules.specs.Accounts.{counted_drop}
use Rattle.bump_rules.specs.declared.commands.Dropped.{Dropped}
use Rattle.bump_rules.specs.declared.commands.Dropped.TheVariants as dropped
use Rattle.bump_rules.specs.Tables.{refused_of}
use Rattle.bump_rules.specs.declared.hands.Hand.{Hand}
use Rattle.bump_rules.specs.declared.hands.Hand.TheVariants as hand
use Rattle.bump_word.specs.Words.{Spells, word_of}
use Rattle.bump_steps.specs.declared.views.Kind.{Kind}
use Rattle.bump_steps.specs.declared.views.Kind.TheVariants as kind
use Rattle.bump_steps.specs.declared.views.Ride.{Ride}
use Rattle.bump_steps.specs.declared.views.WorkerSheet.{WorkerSheet}
use Rattle.bump_steps.specs.declared.views.HoldSheet.{HoldSheet}
use Rattle.bump_steps.specs.declared.views.View.{View}
use Rattle.bump_steps.specs.declared.refusals.RideRefusal.{RideRefusal}
use Rattle.bump_steps.specs.declared.refusals.RideRefusal.TheVariants as refused
use Rattle.bump_steps.specs.Rule.{blank}
use Rattle.bump_steps.specs.Plays.{Sat, on_first}
use Rattle.bump_steps.specs.Marks.{noted, on_worker}

-- a worker, and the hold that is joined to its seat
abbrev pub touching : WorkerSheet → HoldSheet → View
touching worker hold = record blank { workers = worker ∷ []; holds = hold ∷ [] }

-- the head of a life that the worker holds
abbrev pub IsOfHeld : ℕ → ItemId → Head → Type 0
IsOfHeld limit item head = (head.generation ≡ item.generation) × (0 < head.refs) × (head.refs ≤ limit)

-- A refusal as the drop that it is. That a ring has no room is found behind it.
abbrev pub dropped_as : RideRefusal → Dropped
dropped_as refused.RefsFull = dropped.RefsFull
dropped_as refused.Busy = dropped.Busy

-- after a drop ACTIVE is to be cleared, and else the worker goes on to try
abbrev pub judged_hand : Option Dropped → ItemId → Hand
judged_hand None item = hand.Trying item
judged_hand (Some why) item = hand.Clearing item

-- the bump of the life is dropped, or the worker goes on to try
abbrev pub judged : Option Dropped → ItemId → WorkerSheet → WorkerSheet
judged why item worker = record worker { hand = judged_hand why item; accounts = counted_drop why worker.accounts }

-- a step of this kind that looks for room found this head, and so many exchanges have failed: by the rule of an attempt
-- it ends here, or goes on
abbrev pub worker_after_load_to_ride : Kind → ℕ → ℕ → ItemId → Head → WorkerSheet → WorkerSheet
worker_after_load_to_ride kind limit failed item head worker = judged (refused_of limit failed head) item
    (noted kind item.chunk (word_of head) worker)

-- the worker has the reference in its hand, which an exchange took that found this head
abbrev pub worker_after_reserve : ItemId → Head → WorkerSheet → WorkerSheet
worker_after_reserve item head worker = record (noted kind.Reserve item.chunk (word_of head) worker)
    { hand = hand.InHand item }

-- it gave the reference back, for want of room
abbrev pub worker_after_release : ItemId → Head → WorkerSheet → WorkerSheet
worker_after_release item head worker = judged (Some dropped.Full) item
    (noted kind.GiveBackBump item.chunk (word_of head) worker)

-- ---- what the steps tell

-- a step of this kind that looks for room
abbrev pub load_to_ride_by_tells : Kind → ℕ → ℕ → ItemId → Sat → ℕ → Sat → Type 0
load_to_ride_by_tells kind limit failed item before word after = (h : Head) × Spells word h × IsOfHeld limit item h
    × (after ≡ (on_worker (worker_after_load_to_ride kind limit failed item h) before.0, before.1))

-- a load, behind no exchange
abbrev pub load_to_ride_tells : ℕ → ℕ → ItemId → Sat → ℕ → Sat → Type 0
load_to_ride_tells = load_to_ride_by_tells kind.Load

-- an exchange that failed
abbrev pub failed_to_ride_tells : ℕ → ℕ → ItemId → Sat → ℕ → Sat → Type 0
failed_to_ride_tells = load_to_ride_by_tells kind.Failed

-- an exchange that found the word that it expects took the reference
abbrev pub reserve_tells : ℕ → ItemId → Sat → ℕ → Sat → Type 0
reserve_tells limit item before word after = (h : Head) × Spells word h × IsOfHeld limit item h
    × (after ≡ (on_worker (worker_after_reserve item h) before.0, before.1))

abbrev pub try_to_ride_tells : ℕ → ℕ → ItemId → ℕ → Sat → ℕ → Sat → Type 0
try_to_ride_tells limit failed item expected before word after =
    (word ≡ expected → reserve_tells limit item before word after)
    × (word ≢ expected → failed_to_ride_tells limit failed item before word after)

abbrev pub release_tells : ItemId → Sat → ℕ → Sat → Type 0
release_tells item before word after = (h : Head) × Spells word h × (h.generation ≡ item.generation) × (2 ≤ h.refs)
    × (after ≡ (on_worker (worker_after_release item h) before.0, before.1))

-- ---- when they may be made

-- the seat is that of a worker which is so far with a bump of this life, and has a hold of it
pub record IsOn (so_far : Hand) (item : ItemId) (seat : View) : Type 0 where
  pub sheet : WorkerSheet
  pub hold : HoldSheet
  pub view : seat ≡ touching sheet hold
  pub hand : sheet.hand ≡ so_far
  pub life : hold.life ≡ item

-- the word that an exchange expects is that of a head with room for a reference
abbrev pub HasRoomForReference : ℕ → ℕ → Type 0
HasRoomForReference limit word = (h : Head) × Spells word h × (h.refs < limit)

-- ---- base moves

-- a reference in the hand leaves it
abbrev pub sent_hand : Hand → Hand
sent_hand (hand.InHand item) = hand.Idle
sent_hand hand.Idle = hand.Idle
sent_hand (hand.Trying item) = hand.Trying item
sent_hand (hand.Clearing item) = hand.Clearing item

-- the bump was sent off, and counts as accepted
abbrev pub sent : WorkerSheet → WorkerSheet
sent worker = record worker {
  hand = sent_hand worker.hand;
  accounts =
      record worker.accounts { accepted = worker.accounts.accepted + 1 };
}

-- it travels with the number of those accepted before it
abbrev pub rides_by : WorkerSheet → Hand → List Ride
rides_by worker (hand.InHand item) = record { worker = worker.worker; number = worker.accounts.accepted; life = item }
    ∷ []
rides_by worker hand.Idle = []
rides_by worker (hand.Trying item) = []
rides_by worker (hand.Clearing item) = []

abbrev pub rides_in : List WorkerSheet → List Ride
rides_in [] = []
rides_in (worker ∷ ws) = rides_by worker worker.hand

abbrev pub without_ride : View → View
without_ride view = on_worker sent view

abbrev pub ride_only : View → View
ride_only view = record blank { riders = rides_in view.workers }

-- a bump that found no room comes back, and no longer counts as accepted
abbrev pub returned : Ride → WorkerSheet → WorkerSheet
returned ride worker = record worker {
  hand = hand.InHand ride.life;
  accounts =
      record worker.accounts { accepted = worker.accounts.accepted - 1 };
}

abbrev pub return_workers : List Ride → List WorkerSheet → List WorkerSheet
return_workers [] ws = ws
return_workers (ride ∷ rs) ws = on_first (returned ride) ws

-- how a rider's view joins its worker's
abbrev pub return_both : View → View → View
return_both view other = record view { workers = return_workers other.riders view.workers }
