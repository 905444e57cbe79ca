-- What a worker's sheet keeps of its accounts over each change: attempted bumps are its steps that found ACTIVE clear in
-- COLD. And the whole invariant of its seat, by the view that the seat is made of.
use Rattle.std.proofs.Common.{◌≡◌, ℕ, ◌+◌, ◌<◌, ◌&&◌, ◌==◌, cond, not, Bool, true, false, List, [], ◌∷◌, ◌++◌, Option, Some, None, refl, sym, ap, ap₂, ◌∙◌, subst, arith, if◌then◌else◌}
use Rattle.atomic_table.specs.Table.{Me}
use Rattle.atomic_table.specs.Seated.{TableId}
use Rattle.bump_rules.specs.declared.commands.Dropped.{Dropped}
use Rattle.bump_rules.specs.declared.commands.Dropped.TheVariants as dropped
use Rattle.bump_rules.specs.declared.hands.Hand.{Hand}
use Rattle.bump_rules.specs.declared.hands.Hand.TheVariants as hand
use Rattle.bump_rules.specs.declared.items.Head.{Head}
use Rattle.bump_rules.specs.declared.items.ItemId.{ItemId}
use Rattle.bump_rules.specs.declared.places.Segment.{Segment}
use Rattle.bump_rules.specs.declared.places.Segment.TheVariants as segment
use Rattle.bump_rules.specs.Lawful.{bit}
use Rattle.bump_rules.specs.Rings.{attempts_of, most_attempts}
use Rattle.bump_rules.specs.Tables.{is_cold}
use Rattle.bump_rules.proofs.Counted.{how_many_push}
use Rattle.bump_rules.proofs.Updates.{total_append}
use Rattle.bump_word.specs.Words.{Fits, segment_number, word_of}
use Rattle.bump_word.proofs.Words.{fields}
use Rattle.bump_steps.specs.Places.{HasChunk}
use Rattle.bump_steps.specs.declared.refusals.TakeRefusal.{TakeRefusal}
use Rattle.bump_steps.specs.declared.views.Empty.{Empty}
use Rattle.bump_steps.specs.declared.views.HoldSheet.{HoldSheet}
use Rattle.bump_steps.specs.declared.views.Kind.TheVariants as kind
use Rattle.bump_steps.specs.declared.views.OwnStep.{OwnStep}
use Rattle.bump_steps.specs.declared.views.Ride.{Ride}
use Rattle.bump_steps.specs.declared.views.View.{View}
use Rattle.bump_steps.specs.declared.views.WorkerSheet.{WorkerSheet}
use Rattle.bump_steps.specs.Cuts.{joined, without_holds, holds_only}
use Rattle.bump_steps.specs.References.{new_hold}
use Rattle.bump_steps.specs.Marks.{attempting, done, worker_after_fetch, worker_after_mark, noted, on_worker, worker_after_store_time, trying, worker_after_unmark}
use Rattle.bump_steps.specs.Plays.{step_of}
use Rattle.bump_steps.specs.Riders.{ride_me}
use Rattle.bump_steps.specs.Rides.{judged, return_both, returned, sent, without_ride, worker_after_release}
use Rattle.bump_steps.specs.Rule.{blank}
use Rattle.bump_steps.specs.Tries.{drop_of, held_by, last_found, failures, load_and_failures, asked_refusal, asked_steps, asked_life, reserved_or_dropped, takes, view_after_attempt, with_more, worker_after_asked, worker_after_attempt}
use Rattle.bump_readers.specs.declared.views.WorkerView.{WorkerView}
use Rattle.bump_readers.specs.Attempts.{is_attempt, attempts_in}
use Rattle.bump_readers.specs.Riding.{sent_unless}
use Rattle.bump_readers.specs.Seats.{IsHoldOf, IsLifeInRange, IsWorkerSheet, held_life, hold_me, hold_views, listed, worker_in, worker_me}
use Rattle.bump_readers.proofs.Touches.{worker_read_back}

-- ---- steps

-- the attempts of two lists
attempts_append : (xs ys : List OwnStep) → attempts_in (xs ++ ys) ≡ attempts_in xs + attempts_in ys
attempts_append xs ys = total_append (λ x. cond (is_attempt x) 1 0) xs ys

-- one more step
pub attempts_push : (xs : List OwnStep) (x : OwnStep) → attempts_in (xs ++ x ∷ []) ≡ attempts_in xs + cond (is_attempt x)
    1 0
attempts_push xs x = how_many_push is_attempt xs x

-- exchanges that failed attempt nothing
no_failure : (c : ℕ) (hs : List Head) → attempts_in (failures c hs) ≡ 0
no_failure c [] = refl
no_failure c (h ∷ hs) = omega (arith, no_failure c hs)

-- nor does the load before them
no_look : (c : ℕ) (h : Head) (hs : List Head) → attempts_in (load_and_failures c h hs) ≡ 0
no_look c h hs = omega (arith, no_failure c hs)

-- nor does an exchange that takes a reference for a hold
no_take : (c : ℕ) (o : Option TakeRefusal) (h : Head) → attempts_in (takes c o h) ≡ 0
no_take c None h = refl
no_take c (Some r) h = refl

-- the word of a head says whether ACTIVE is clear
clear_as : (a : Bool) → (bit a == 0) ≡ not a
clear_as true = refl
clear_as false = refl

-- and whether its segment is COLD
cold_as : (s : Segment) → (segment_number s == segment_number segment.Cold) ≡ is_cold s
cold_as segment.Hot = refl
cold_as segment.Warm = refl
cold_as segment.Cold = refl
cold_as segment.Temp = refl

-- a step that set ACTIVE is an attempt by the head that it found
mark_attempts : (c : ℕ) (h : Head) → Fits h → is_attempt (step_of kind.Mark c (word_of h) None)
    ≡ (not h.active && is_cold h.segment)
mark_attempts c h fits = let f = fields (word_of h) h (refl, fits) in
    ap₂ (λ (p q : Bool). p && q) (ap (λ (k : ℕ). k == 0) f.active ∙ clear_as h.active)
    (ap (λ (k : ℕ). k == segment_number segment.Cold) f.segment ∙ cold_as h.segment)

-- ---- sheets

-- steps that attempt nothing leave the accounts
pub more_kept : (p : WorkerSheet) (xs : List OwnStep) → attempts_in xs ≡ 0 → IsWorkerSheet p
    → IsWorkerSheet (with_more xs p)
more_kept p xs none is =
    record { accounts = is.accounts; attempts = omega (arith, is.attempts, none, attempts_append p.steps xs) }

-- the steps by which a reference is taken for a hold, or isn't
pub take_kept : (limit : ℕ) (asked : Head → ℕ) (c : ℕ) (first : Head) (more : List Head) (row : List ℕ)
    (p : WorkerSheet) → IsWorkerSheet p → IsWorkerSheet (worker_after_asked limit asked c first more row p)
take_kept limit asked c first more row p is =
    let kept = more_kept p (asked_steps limit asked c first more) (omega (
      arith,
      attempts_append (load_and_failures c first more)
          (takes c (asked_refusal limit asked first more) (last_found first more)),
      no_look c first more,
      no_take c (asked_refusal limit asked first more) (last_found first more),
    )) is in
    record { accounts = kept.accounts; attempts = kept.attempts }

-- FETCHED was set
pub fetch_kept : (l : ItemId) (h : Head) (p : WorkerSheet) → IsWorkerSheet p → IsWorkerSheet (worker_after_fetch l h p)
fetch_kept l h p is = record {
  accounts = is.accounts;
  attempts = omega (arith, is.attempts, attempts_push p.steps (step_of kind.Fetch l.chunk (word_of h) None));
}

-- the time was stored
pub time_kept : (l : ItemId) (now : ℕ) (p : WorkerSheet) → IsWorkerSheet p
    → IsWorkerSheet (worker_after_store_time l now p)
time_kept l now p is = record {
  accounts = is.accounts;
  attempts = omega (arith, is.attempts, attempts_push p.steps (step_of kind.StoreTime l.chunk now None));
}

-- ACTIVE was cleared after a drop
pub unmark_kept : (l : ItemId) (h : Head) (p : WorkerSheet) → p.hand ≡ hand.Clearing l → IsWorkerSheet p
    → IsWorkerSheet (worker_after_unmark l h p)
unmark_kept l h p clearing is = record {
  accounts = record {
    accepted = refl;
    attempted = omega (
      arith,
      is.accounts.attempted,
      ap attempts_of clearing,
      ap (λ (s : Hand). attempts_of (done s))
          clearing,
    );
    most = is.accounts.most;
  };
  attempts = omega (arith, is.attempts, attempts_push p.steps (step_of kind.Unmark l.chunk (word_of h) None));
}

-- ACTIVE was set: one more attempt, exactly where the step is one
pub mark_kept : (l : ItemId) (h : Head) (p : WorkerSheet) → Fits h → p.hand ≡ hand.Idle
    → p.accounts.attempted < most_attempts
    → IsWorkerSheet p → IsWorkerSheet (worker_after_mark l h p)
mark_kept l h p fits idle few is = by (not h.active && is_cold h.segment) (mark_attempts l.chunk h fits)
  where
    by : (b : Bool) → is_attempt (step_of kind.Mark l.chunk (word_of h) None) ≡ b
        → IsWorkerSheet (if b then attempting l (noted kind.Mark l.chunk (word_of h) p) else noted kind.Mark l.chunk
        (word_of h) p)
    by true attempt = record {
      accounts = record {
        accepted = refl;
        attempted = omega (
          arith,
          is.accounts.attempted,
          ap attempts_of idle,
          ap (λ (s : Hand). attempts_of (trying l s)) idle,
        );
        most = omega (arith, few);
      };
      attempts = omega (
        arith,
        is.attempts,
        attempts_push p.steps (step_of kind.Mark l.chunk (word_of h) None),
        ap bit attempt,
      );
    }
    by false attempt = record {
      accounts = is.accounts;
      attempts = omega (
        arith,
        is.attempts,
        attempts_push p.steps (step_of kind.Mark l.chunk (word_of h) None),
        ap bit attempt,
      );
    }

-- a bump is dropped, by its attempt or for want of room
drop_kept : (d : Dropped) (l : ItemId) (p : WorkerSheet) → attempts_of p.hand ≡ 1 → IsWorkerSheet p
    → IsWorkerSheet (judged (Some d) l p)
drop_kept dropped.RefsFull l p trying is = record {
  accounts = record {
    accepted = refl;
    attempted = omega (arith, is.accounts.attempted, trying);
    most =
        is.accounts.most;
  };
  attempts = is.attempts;
}
drop_kept dropped.Busy l p trying is = record {
  accounts = record {
    accepted = refl;
    attempted = omega (arith, is.accounts.attempted, trying);
    most =
        is.accounts.most;
  };
  attempts = is.attempts;
}
drop_kept dropped.Full l p trying is = record {
  accounts = record {
    accepted = refl;
    attempted = omega (arith, is.accounts.attempted, trying);
    most =
        is.accounts.most;
  };
  attempts = is.attempts;
}

-- the reference of a bump was taken and sent off, or the bump dropped
pub ride_kept : (o : Option Dropped) (l : ItemId) (h : Head) (c : ℕ) (first : Head) (more : List Head) (p : WorkerSheet)
    → p.hand ≡ hand.Trying l
    → IsWorkerSheet p → IsWorkerSheet (sent_unless o (reserved_or_dropped o l h (with_more (load_and_failures c first more) p)))
ride_kept None l h c first more p trying is = record {
  accounts = record {
    accepted = refl;
    attempted = omega (arith, is.accounts.attempted, ap attempts_of trying);
    most =
        is.accounts.most;
  };
  attempts = omega (
    arith,
    is.attempts,
    attempts_append p.steps (load_and_failures c first more),
    no_look c first more,
    attempts_push (p.steps ++ load_and_failures c first more) (step_of kind.Reserve l.chunk (word_of h) None),
  );
}
ride_kept (Some d) l h c first more p trying is = drop_kept d l (with_more (load_and_failures c first more) p) (ap attempts_of trying)
    (more_kept p (load_and_failures c first more) (no_look c first more) is)

-- a bump came back
pub back_kept : (r : Ride) (p : WorkerSheet) → p.hand ≡ hand.Idle → r.number + 1 ≡ p.accounts.accepted → IsWorkerSheet p
    → IsWorkerSheet (returned r p)
back_kept r p idle last is = record {
  accounts = record {
    accepted = refl;
    attempted = omega (arith, is.accounts.attempted, ap attempts_of idle, last);
    most = is.accounts.most;
  };
  attempts = is.attempts;
}

-- a bump was dropped for want of room
pub full_kept : (l : ItemId) (h : Head) (p : WorkerSheet) → p.hand ≡ hand.InHand l → IsWorkerSheet p
    → IsWorkerSheet (worker_after_release l h p)
full_kept l h p in_hand is = drop_kept dropped.Full l (noted kind.GiveBackBump l.chunk (word_of h) p)
    (ap attempts_of in_hand) (record {
      accounts = is.accounts;
      attempts = omega (arith, is.attempts, attempts_push p.steps (step_of kind.GiveBackBump l.chunk (word_of h) None));
    })

-- ---- seats

-- what a worker's seat of this table and number keeps
abbrev pub IsWhole : TableId → ℕ → TableId → Me Empty View → Type 0
IsWhole table number id m = (m ≡ worker_me (worker_in m.0)) × (id ≡ table) × (number ≡ (worker_in m.0).sheet.worker)
    × IsLifeInRange table (held_life (worker_in m.0).hold) × IsWorkerSheet (worker_in m.0).sheet

-- what a seat's invariant says of the view that it is made of
pub whole_seat : (table : TableId) (number : ℕ) (id : TableId) (m : Me Empty View) (v : WorkerView) → m ≡ worker_me v
    → id ≡ table
    → number ≡ v.sheet.worker → IsLifeInRange table (held_life v.hold) → IsWorkerSheet v.sheet
    → IsWhole table number id m
whole_seat table number id m v is named own near sheet = subst (λ (x : WorkerView). (m ≡ worker_me x) × (id ≡ table)
    × (number ≡ x.sheet.worker) × IsLifeInRange table (held_life x.hold) × IsWorkerSheet x.sheet)
    (sym (worker_read_back m v is))
    (is, named, own, near, sheet)

-- a seat that is seen as w keeps what it does, where its view is x now
pub changed_seat : (table : TableId) (number : ℕ) (id id₁ : TableId) (m m₁ : Me Empty View) (w x : WorkerView)
    → IsWhole table number id m
    → worker_in m.0 ≡ w → id₁ ≡ id → m₁ ≡ worker_me x → x.sheet.worker ≡ w.sheet.worker
    → (IsLifeInRange table (held_life w.hold) → IsLifeInRange table (held_life x.hold))
    → (IsWorkerSheet w.sheet → IsWorkerSheet x.sheet)
    → IsWhole table number id₁ m₁
changed_seat table number id id₁ m m₁ w x whole same other is own near sheet =
    let seen : (number ≡ w.sheet.worker) × IsLifeInRange table (held_life w.hold) × IsWorkerSheet w.sheet = subst
    (λ (y : WorkerView). (number ≡ y.sheet.worker) × IsLifeInRange table (held_life y.hold) × IsWorkerSheet y.sheet) same
    (whole.2, whole.3, whole.4) in
    whole_seat table number id₁ m₁ x is (other ∙ whole.1) (seen.0 ∙ sym own) (near seen.1) (sheet seen.2)

-- a step that set ACTIVE leaves the worker's number
pub mark_worker : (l : ItemId) (h : Head) (p : WorkerSheet) → (worker_after_mark l h p).worker ≡ p.worker
mark_worker l h p = by (not h.active && is_cold h.segment)
  where
    by : (b : Bool)
        → (if b then attempting l (noted kind.Mark l.chunk (word_of h) p) else noted kind.Mark l.chunk (word_of h)
        p).worker ≡ p.worker
    by true = refl
    by false = refl

-- the seat of a worker to which these holds are joined
abbrev with_holds : WorkerSheet → List HoldSheet → Me Empty View
with_holds p hs = (record blank { workers = p ∷ []; holds = hs }, [])

abbrev with_hold : WorkerSheet → Option HoldSheet → WorkerView
with_hold p h = record { sheet = p; hold = h }

-- a hold of a life of the table is in its range
hold_near : (table : TableId) (l : ItemId) (o : Option HoldSheet) → IsHoldOf l o → HasChunk table l.chunk
    → IsLifeInRange table (held_life o)
hold_near table l None of near = tt
hold_near table l (Some h) of near = omega (arith, near, ap (λ (x : ItemId). x.chunk) of)

module _ (table : TableId) (number : ℕ) (id id₁ : TableId) (m m₁ : Me Empty View) (w : WorkerView)
    (whole : IsWhole table number id m)
    (same : worker_in m.0 ≡ w) (other : id₁ ≡ id) where
  -- the seat before is that of the view
  before_is : m ≡ worker_me w
  before_is = whole.0 ∙ ap worker_me same

  -- the worker's sheet alone changes
  pub stepped_seat : (f : WorkerSheet → WorkerSheet) → m₁ ≡ (on_worker f m.0, m.1) → (f w.sheet).worker ≡ w.sheet.worker
      → (IsWorkerSheet w.sheet → IsWorkerSheet (f w.sheet)) → IsWhole table number id₁ m₁
  stepped_seat f told own sheet = changed_seat table number id id₁ m m₁ w (record w { sheet = f w.sheet }) whole same
      other
      (told ∙ ap (λ (x : Me Empty View). (on_worker f x.0, x.1)) before_is) own (λ near. near) sheet

  -- a hold is joined, or split off
  pub joined_seat : (p : Me Empty View) (l : ItemId) (o : Option HoldSheet) → w.hold ≡ None → p ≡ hold_me o
      → IsHoldOf l o
      → HasChunk table l.chunk → m₁ ≡ (joined m.0 p.0, m.1) → IsWhole table number id₁ m₁
  joined_seat p l o alone hold of near told = changed_seat table number id id₁ m m₁ w (record w { hold = o }) whole
      same other
      (told ∙ ap₂ (λ (x y : Me Empty View). (joined x.0 y.0, x.1)) before_is hold
      ∙ ap (λ (h : Option HoldSheet). with_holds w.sheet (listed h ++ listed o)) alone) refl
      (λ was. hold_near table l o of near)
      (λ sheet. sheet)

  pub parted_seat : m₁ ≡ (without_holds m.0, m.1) → IsWhole table number id₁ m₁
  parted_seat told = changed_seat table number id id₁ m m₁ w (record w { hold = None }) whole same other
      (told ∙ ap (λ (x : Me Empty View). (without_holds x.0, x.1)) before_is) refl (λ was. tt) (λ sheet. sheet)

  -- no reference is taken for a hold, or one that is split off
  module _ (limit : ℕ) (asked : Head → ℕ) (c : ℕ) (first : Head) (more : List Head) (row : List ℕ) where
    pub refused_seat : (answered : Option TakeRefusal) (r : TakeRefusal)
        → w.hold ≡ None → m₁ ≡ (view_after_attempt limit asked c first more row m.0, m.1)
        → answered ≡ asked_refusal limit asked first more
        → answered ≡ Some r → IsWhole table number id₁ m₁
    refused_seat answered r alone view answer is = changed_seat table number id id₁ m m₁ w
        (record { sheet = worker_after_asked limit asked c first more row w.sheet; hold = None }) whole same other
        (view ∙ ap (λ (x : Me Empty View). (view_after_attempt limit asked c first more row x.0, x.1)) before_is
        ∙ ap₂ (λ (h : Option HoldSheet) (q : Option TakeRefusal). with_holds
        (worker_after_asked limit asked c first more row w.sheet)
        (held_by q (asked_life asked c first more) row (listed h))) alone (sym answer ∙ is))
        refl (λ was. tt) (take_kept limit asked c first more row w.sheet)

    pub held_seat : (p : Me Empty View)
        → p ≡ (view_after_attempt limit asked c first more row m.0, m.1) → m₁ ≡ (without_holds p.0, p.1)
        → IsWhole table number id₁ m₁
    held_seat p view told = changed_seat table number id id₁ m m₁ w
        (record { sheet = worker_after_asked limit asked c first more row w.sheet; hold = None }) whole same other
        (told ∙ ap (λ (x : Me Empty View). (without_holds x.0, x.1)) (view
        ∙ ap (λ (x : Me Empty View). (view_after_attempt limit asked c first more row x.0, x.1)) before_is)) refl
        (λ was. tt) (take_kept limit asked c first more row w.sheet)

    -- what contracts see of the worker then
    pub refused_view : (r : TakeRefusal) → w.hold ≡ None
        → m₁ ≡ (view_after_attempt limit asked c first more row m.0, m.1)
        → asked_refusal limit asked first more ≡ Some r
        → worker_in m₁.0 ≡ record w { sheet = worker_after_asked limit asked c first more row w.sheet }
    refused_view r alone view is = ap (λ (x : Me Empty View). worker_in x.0)
        (view ∙ ap (λ (x : Me Empty View). (view_after_attempt limit asked c first more row x.0, x.1)) before_is
        ∙ ap₂ (λ (h : Option HoldSheet) (q : Option TakeRefusal). with_holds
        (worker_after_asked limit asked c first more row w.sheet)
        (held_by q (asked_life asked c first more) row (listed h))) alone is)
        ∙ ap (λ (h : Option HoldSheet). with_hold
        (worker_after_asked limit asked c first more row w.sheet) h) (sym alone)

    pub held_view : (p : Me Empty View) → w.hold ≡ None
        → p ≡ (view_after_attempt limit asked c first more row m.0, m.1) → m₁ ≡ (without_holds p.0, p.1)
        → worker_in m₁.0 ≡ record w { sheet = worker_after_asked limit asked c first more row w.sheet }
    held_view p alone view told = ap (λ (x : Me Empty View). worker_in x.0)
        (told ∙ ap (λ (x : Me Empty View). (without_holds x.0, x.1)) (view
        ∙ ap (λ (x : Me Empty View). (view_after_attempt limit asked c first more row x.0, x.1)) before_is))
        ∙ ap (λ (h : Option HoldSheet). with_hold
        (worker_after_asked limit asked c first more row w.sheet) h) (sym alone)

    -- and of the new hold
    pub new_views : (p : Me Empty View) (views : List View) → w.hold ≡ None
        → p ≡ (view_after_attempt limit asked c first more row m.0, m.1) → views ≡ holds_only p.0 ∷ []
        → asked_refusal limit asked first more ≡ None
        → views ≡ hold_views (Some (new_hold (asked_life asked c first more) row))
    new_views p views alone view told is = told
        ∙ ap (λ (x : Me Empty View). holds_only x.0 ∷ []) (view
        ∙ ap (λ (x : Me Empty View). (view_after_attempt limit asked c first more row x.0, x.1)) before_is)
        ∙ ap₂ (λ (h : Option HoldSheet) (q : Option TakeRefusal). record blank {
          holds = held_by q (asked_life asked c first more) row (listed h);
        } ∷ []) alone is

  -- a bump is dropped, sent off, or comes back
  pub dropped_seat : (limit : ℕ) (l : ItemId) (d : Dropped) (first : Head) (more : List Head)
      → w.sheet.hand ≡ hand.Trying l
      → m₁ ≡ (on_worker (worker_after_attempt limit l first more) m.0, m.1) → drop_of limit first more ≡ Some d
      → IsWhole table number id₁ m₁
  dropped_seat limit l d first more trying view is =
      let after : Option Dropped → WorkerSheet = λ o. reserved_or_dropped o l (last_found first more)
      (with_more (load_and_failures l.chunk first more) w.sheet) in
      stepped_seat (worker_after_attempt limit l first more) view (ap (λ (o : Option Dropped). (after o).worker) is)
      (λ sheet. subst (λ (o : Option Dropped). IsWorkerSheet (after o)) (sym is)
      (ride_kept (Some d) l (last_found first more) l.chunk first more w.sheet trying sheet))

  pub sent_seat : (limit : ℕ) (l : ItemId) (first : Head) (more : List Head) (p : Me Empty View)
      → w.sheet.hand ≡ hand.Trying l
      → p ≡ (on_worker (worker_after_attempt limit l first more) m.0, m.1) → drop_of limit first more ≡ None
      → m₁ ≡ (without_ride p.0, p.1) → IsWhole table number id₁ m₁
  sent_seat limit l first more p trying view is told =
      let after : Option Dropped → WorkerSheet → WorkerSheet = λ o q. reserved_or_dropped o l (last_found first more)
      (with_more (load_and_failures l.chunk first more) q) in
      changed_seat table number id id₁ m m₁ w (record w { sheet = sent (after None w.sheet) }) whole same other
      (told ∙ ap (λ (x : Me Empty View). (without_ride x.0, x.1)) (view
      ∙ ap (λ (x : Me Empty View). (on_worker (after (drop_of limit first more)) x.0, x.1)) before_is)
      ∙ ap (λ (o : Option Dropped). worker_me (record w { sheet = sent (after o w.sheet) })) is)
      refl (λ near. near) (ride_kept None l (last_found first more) l.chunk first more w.sheet trying)

  pub back_seat : (r : Ride) (p : Me Empty View) → w.sheet.hand ≡ hand.Idle → r.number + 1 ≡ w.sheet.accounts.accepted
      → p ≡ ride_me r
      → m₁ ≡ (return_both m.0 p.0, m.1) → IsWhole table number id₁ m₁
  back_seat r p idle last rider told = changed_seat table number id id₁ m m₁ w (record w { sheet = returned r w.sheet })
      whole same other
      (told ∙ ap₂ (λ (x y : Me Empty View). (return_both x.0 y.0, x.1)) before_is rider) refl (λ near. near)
      (back_kept r w.sheet idle last)
