-- What an attempt comes to.
use Rattle.std.proofs.Common.{◌≡◌, ℕ, ◌+◌, ◌-◌, ◌<◌, ◌≤◌, true, cond, List, [], ◌∷◌, ◌++◌, length, Option, Some, None}
use Rattle.std.proofs.Common.{Ok, Err, sym, ap, ◌∙◌, arith, append_assoc, append-nil}
use Rattle.bump_rules.specs.declared.bumps.Accounts.{Accounts}
use Rattle.bump_rules.specs.declared.items.Head.{Head}
use Rattle.bump_rules.specs.declared.items.ItemId.{ItemId}
use Rattle.bump_rules.specs.declared.hands.Hand.TheVariants as hand
use Rattle.bump_rules.specs.declared.commands.Dropped.{Dropped}
use Rattle.bump_rules.specs.declared.commands.Dropped.TheVariants as dropped
use Rattle.bump_rules.specs.declared.commands.Room.{Room}
use Rattle.bump_rules.specs.declared.commands.Room.TheVariants.{Known, Unknown}
use Rattle.bump_rules.specs.declared.commands.Touch.TheVariants as touch
use Rattle.bump_rules.specs.Tables.{dropped_for_room, attempted_of}
use Rattle.bump_rules.specs.Totals.{how_many}
use Rattle.bump_rules.proofs.Updates.{total_append}
use Rattle.bump_steps.specs.declared.refusals.RideRefusal.{RideRefusal}
use Rattle.bump_steps.specs.declared.refusals.RideRefusal.TheVariants as refused
use Rattle.bump_steps.specs.declared.views.Kind.TheVariants as kind
use Rattle.bump_steps.specs.declared.views.OwnStep.{OwnStep}
use Rattle.bump_steps.specs.declared.views.Ride.{Ride}
use Rattle.bump_steps.specs.declared.views.WorkerSheet.{WorkerSheet}
use Rattle.bump_steps.specs.Marks.{worker_after_unmark}
use Rattle.bump_steps.specs.Rides.{dropped_as, returned, worker_after_release}
use Rattle.bump_steps.specs.Tries.{drop_of, last_found, load_and_failures, reserved_or_dropped, with_more}
use Rattle.bump_steps.specs.Views.{is_fetch_of}
use Rattle.bump_readers.specs.declared.views.WorkerView.{WorkerView}
use Rattle.bump_readers.specs.Riding.{Rode, ride_of, sent_unless}
use Rattle.bump_readers.specs.Touching.{fetches_of}
use Rattle.bump_ring.specs.Ends.{SenderView}
use Rattle.bump_unlocked.specs.Touches.{Findings, IsHeadOf, own_step}
use Rattle.bump_unlocked.specs.Attempts.{Attempted, attempted_sheet}

-- a worker that set FETCHED of the item still has, after more steps
pub still_fetched : (l : ItemId) (p q : WorkerSheet) (more : List OwnStep) → q.steps ≡ p.steps ++ more
    → 0 < fetches_of l p → 0 < fetches_of l q
still_fetched l p q more grown has = let is = is_fetch_of l.chunk l.generation in
    omega (arith, has, ap (how_many is) grown, total_append (λ x. cond (is x) 1 0) p.steps more)

-- nothing is sent
pub unsent : (s t : SenderView) → t ≡ s → t ≡ record s { sent = s.sent ++ [] }
unsent s t same = same ∙ ap (λ (x : List Ride). record s { sent = x }) (sym (append-nil s.sent))

-- a worker whose sheet is this one
abbrev pub with_sheet : WorkerView → WorkerSheet → WorkerView
with_sheet v p = record v { sheet = p }

-- what an attempt found
abbrev found_by : Head → List Head → Room → Head → Head → Findings
found_by h more room back cleared =
    record { first = h; second = h; look = h; failed = more; room = room; back = back; cleared = cleared }

-- the worker after a ride, by why its bump is dropped, if it is
abbrev after_ride : Option Dropped → ItemId → Head → List Head → WorkerSheet → WorkerSheet
after_ride o l first more p =
    sent_unless o (reserved_or_dropped o l (last_found first more) (with_more (load_and_failures l.chunk first more) p))

ridden : (limit : ℕ) (l : ItemId) (v w : WorkerView) (first : Head) (more : List Head) (o : Option Dropped)
    → drop_of limit first more ≡ o → w ≡ with_sheet v (after_ride (drop_of limit first more) l first more v.sheet)
    → w ≡ with_sheet v (after_ride o l first more v.sheet)
ridden limit l v w first more o why is =
    is ∙ ap (λ (x : Option Dropped). with_sheet v (after_ride x l first more v.sheet)) why

-- the sheet of a worker whose attempt is over
abbrev over : WorkerSheet → Accounts → List OwnStep → WorkerSheet
over p accounts steps = record p { hand = hand.Idle; accounts = accounts; steps = steps }

-- ---- the bump is queued

pub queued : (limit : ℕ) (l : ItemId) (v w : WorkerView) (s t : SenderView) (number n : ℕ) (first : Head)
    (more : List Head) (r : Ride) → Rode limit l v w (Ok r) first more → r ≡ ride_of v number l
    → number ≡ length s.sent → n ≡ length s.sent → t ≡ record s { sent = s.sent ++ r ∷ [] }
    → (f : Findings) × Attempted limit l v w s t (touch.Queued n) f
queued limit l v w s t number n first more r rode rider is at grown =
    let f : Findings = found_by first more Known first first in
    let why : drop_of limit first more ≡ None = sym rode.answer in
    let p = v.sheet in
    let ls = load_and_failures l.chunk first more in
    let ride : r ≡ ride_of v n l = rider ∙ ap (λ (k : ℕ). ride_of v k l) (is ∙ sym at) in
    let accounts : Accounts = record p.accounts { accepted = p.accounts.accepted + 1 } in (
      f,
      record {
        looks = rode.found;
        back = λ e. absurd (cc e);
        cleared = λ d e. absurd (cc e);
        fetched = λ d e. absurd (cc e);
        room = λ e. absurd (cc e);
        answer = ap touch.Queued at
            ∙ sym (ap (λ (d : Option Dropped). attempted_of (dropped_for_room Known d) (length s.sent)) why);
        sheet = ridden limit l v w first more None why rode.worker
            ∙ ap (λ (x : List OwnStep). with_sheet v (over p accounts x))
            (append_assoc p.steps ls (own_step kind.Reserve l (last_found first more) ∷ []));
        sender = grown ∙ ap (λ (x : Ride). record s { sent = s.sent ++ x ∷ [] }) ride;
      },
    )

-- ---- no reference was had

-- what the ride and the clearing of ACTIVE leave
refused_sheet : (r : RideRefusal) (l : ItemId) (first : Head) (more : List Head) (cleared : Head) (p : WorkerSheet)
    → worker_after_unmark l cleared (after_ride (Some (dropped_as r)) l first more p)
    ≡ attempted_sheet (touch.Dropped (dropped_as r)) l (found_by first more Known first cleared) p
refused_sheet r l first more cleared p = by r
  where
    steps : (p.steps ++ load_and_failures l.chunk first more) ++ own_step kind.Unmark l cleared ∷ []
        ≡ p.steps ++ (load_and_failures l.chunk first more ++ own_step kind.Unmark l cleared ∷ [])
    steps = append_assoc p.steps (load_and_failures l.chunk first more) (own_step kind.Unmark l cleared ∷ [])

    by : (r : RideRefusal) → worker_after_unmark l cleared (after_ride (Some (dropped_as r)) l first more p)
        ≡ attempted_sheet (touch.Dropped (dropped_as r)) l (found_by first more Known first cleared) p
    by refused.RefsFull = ap (over p (record p.accounts { refs = p.accounts.refs + 1 })) steps
    by refused.Busy = ap (over p (record p.accounts { busy = p.accounts.busy + 1 })) steps

-- the ring isn't asked
not_full : (r : RideRefusal) → dropped_as r ≡ dropped.Full → ⊥
not_full refused.RefsFull e = cc e
not_full refused.Busy e = cc e

dropped_is : (d e : Dropped) → touch.Dropped d ≡ touch.Dropped e → d ≡ e
dropped_is d e same = cc same

module _ (limit : ℕ) (l : ItemId) (v w : WorkerView) (first : Head) (more : List Head) (r : RideRefusal)
    (rode : Rode limit l v w (Err r) first more) where
  refused_worker : w ≡ with_sheet v (after_ride (Some (dropped_as r)) l first more v.sheet)
  refused_worker = ridden limit l v w first more (Some (dropped_as r)) (sym rode.answer) rode.worker

  pub refused_fetched : 0 < fetches_of l v.sheet → 0 < fetches_of l w.sheet
  refused_fetched has =
      still_fetched l v.sheet w.sheet (load_and_failures l.chunk first more)
      (ap (λ (y : WorkerView). y.sheet.steps) refused_worker) has

  pub refused_ride : (x : WorkerView) (s t : SenderView) (cleared : Head) → IsHeadOf l cleared → cleared.fetched ≡ true
      → x ≡ record w { sheet = worker_after_unmark l cleared w.sheet } → t ≡ s
      → (f : Findings) × Attempted limit l v x s t (touch.Dropped (dropped_as r)) f
  refused_ride x s t cleared head fetched cleared_by same =
      let f : Findings = found_by first more Known first cleared in (
        f,
        record {
          looks = rode.found;
          back = λ e. absurd (not_full r (dropped_is (dropped_as r) dropped.Full e));
          cleared = λ d e. head;
          fetched = λ d e. fetched;
          room = λ e. absurd (cc e);
          answer = ap (λ (d : Option Dropped). attempted_of (dropped_for_room Known d) (length s.sent)) rode.answer;
          sheet = cleared_by
              ∙ ap (λ (y : WorkerView). record y { sheet = worker_after_unmark l cleared y.sheet }) refused_worker
              ∙ ap (with_sheet v) (refused_sheet r l first more cleared v.sheet);
          sender = unsent s t same;
        },
      )

-- ---- the ring had no room

given_steps : (xs ls : List OwnStep) (a b : OwnStep) → ((xs ++ ls) ++ a ∷ []) ++ b ∷ [] ≡ xs ++ (ls ++ a ∷ b ∷ [])
given_steps xs ls a b = append_assoc (xs ++ ls) (a ∷ []) (b ∷ []) ∙ append_assoc xs ls (a ∷ b ∷ [])

full_steps : (xs ls : List OwnStep) (a b c : OwnStep)
    → (((xs ++ ls) ++ a ∷ []) ++ b ∷ []) ++ c ∷ [] ≡ xs ++ (ls ++ a ∷ b ∷ c ∷ [])
full_steps xs ls a b c =
    append_assoc ((xs ++ ls) ++ a ∷ []) (b ∷ []) (c ∷ []) ∙ append_assoc (xs ++ ls) (a ∷ []) (b ∷ c ∷ [])
    ∙ append_assoc xs ls (a ∷ b ∷ c ∷ [])

-- what the ride, the rider's way back, the giving back and the clearing of ACTIVE leave
full_sheet : (l : ItemId) (back : Ride) (first : Head) (more : List Head) (given cleared : Head) (p : WorkerSheet)
    → worker_after_unmark l cleared (worker_after_release l given (returned back (after_ride None l first more p)))
    ≡ attempted_sheet (touch.Dropped dropped.Full) l (found_by first more Unknown given cleared) p
full_sheet l back first more given cleared p =
    let a = p.accounts in
    let one : a.accepted + 1 - 1 ≡ a.accepted = omega arith in
    let reserved = own_step kind.Reserve l (last_found first more) in
    let released = own_step kind.GiveBackBump l given in
    let unmarked = own_step kind.Unmark l cleared in
    let steps = full_steps p.steps (load_and_failures l.chunk first more) reserved released unmarked in
    λ i. over p (record a { accepted = one i; full = a.full + 1 }) (steps i)

module _ (limit : ℕ) (l : ItemId) (v rode_off came_back gave : WorkerView) (first : Head) (more : List Head)
    (r back : Ride) (given : Head) (rode : Rode limit l v rode_off (Ok r) first more)
    (after_back : came_back ≡ record rode_off { sheet = returned back rode_off.sheet })
    (after_gave : gave ≡ record came_back { sheet = worker_after_release l given came_back.sheet }) where
  given_worker : gave ≡ with_sheet v (worker_after_release l given (returned back (after_ride None l first more v.sheet)))
  given_worker =
      let back_is = after_back ∙ ap (λ (y : WorkerView). record y { sheet = returned back y.sheet })
      (ridden limit l v rode_off first more None (sym rode.answer) rode.worker) in
      after_gave ∙ ap (λ (y : WorkerView). record y { sheet = worker_after_release l given y.sheet }) back_is

  pub full_fetched : 0 < fetches_of l v.sheet → 0 < fetches_of l gave.sheet
  full_fetched has =
      let looked = load_and_failures l.chunk first more in
      let reserved = own_step kind.Reserve l (last_found first more) in
      let released = own_step kind.GiveBackBump l given in
      still_fetched l v.sheet gave.sheet (looked ++ reserved ∷ released ∷ [])
      (ap (λ (y : WorkerView). y.sheet.steps) given_worker ∙ given_steps v.sheet.steps looked reserved released) has

  pub full : (x : WorkerView) (s t : SenderView) (cleared : Head) → IsHeadOf l given → IsHeadOf l cleared
      → cleared.fetched ≡ true → x ≡ record gave { sheet = worker_after_unmark l cleared gave.sheet }
      → t ≡ s → s.shown + s.capacity ≤ length s.sent → (f : Findings) × Attempted limit l v x s t (touch.Dropped dropped.Full) f
  full x s t cleared given_head cleared_head fetched cleared_by same room =
      let f : Findings = found_by first more Unknown given cleared in (
        f,
        record {
          looks = rode.found;
          back = λ e. given_head;
          cleared = λ d e. cleared_head;
          fetched = λ d e. fetched;
          room = λ e. room;
          answer = ap (λ (d : Option Dropped). attempted_of (dropped_for_room Unknown d) (length s.sent)) rode.answer;
          sheet = cleared_by
              ∙ ap (λ (y : WorkerView). record y { sheet = worker_after_unmark l cleared y.sheet }) given_worker
              ∙ ap (with_sheet v) (full_sheet l back first more given cleared v.sheet);
          sender = unsent s t same;
        },
      )
