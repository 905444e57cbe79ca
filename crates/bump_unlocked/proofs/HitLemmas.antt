-- What a hit comes to.
use Rattle.std.proofs.Common.{◌≡◌, ℕ, ◌<◌, Bool, true, false, not, ◌&&◌, if◌then◌else◌, List, [], ◌∷◌, ◌++◌, length}
use Rattle.std.proofs.Common.{Option, Some, None, refl, sym, ap, ◌∙◌, append_assoc, true≢false}
use Rattle.bump_rules.specs.declared.items.Head.{Head}
use Rattle.bump_rules.specs.declared.items.ItemId.{ItemId}
use Rattle.bump_rules.specs.declared.hands.Hand.TheVariants as hand
use Rattle.bump_rules.specs.declared.commands.Dropped.{Dropped}
use Rattle.bump_rules.specs.declared.commands.Dropped.TheVariants as dropped
use Rattle.bump_rules.specs.declared.commands.Hit.{Hit}
use Rattle.bump_rules.specs.declared.commands.Hit.TheVariants as hit
use Rattle.bump_rules.specs.declared.commands.Room.TheVariants.{Known}
use Rattle.bump_rules.specs.declared.commands.Touch.{Touch}
use Rattle.bump_rules.specs.declared.commands.Touch.TheVariants as touch
use Rattle.bump_rules.specs.Lives.{count_of}
use Rattle.bump_rules.specs.Tables.{attempted_of, hit_of, hit_by_second, makes_second, is_cold, touch_of}
use Rattle.bump_word.specs.Words.{word_of}
use Rattle.bump_steps.specs.declared.views.Kind.TheVariants as kind
use Rattle.bump_steps.specs.declared.views.OwnStep.{OwnStep}
use Rattle.bump_steps.specs.declared.views.WorkerSheet.{WorkerSheet}
use Rattle.bump_steps.specs.Marks.{noted, hits_after, worker_after_fetch, worker_after_mark, attempting}
use Rattle.bump_steps.specs.Marks.{worker_after_store_time}
use Rattle.bump_steps.specs.Plays.{step_of}
use Rattle.bump_readers.specs.declared.views.WorkerView.{WorkerView}
use Rattle.bump_readers.specs.Touching.{fetches_of}
use Rattle.bump_ring.specs.Ends.{SenderView}
use Rattle.bump_unlocked.specs.Touches.{Findings, IsHeadOf, why_dropped, own_step, second_steps, attempt_steps}
use Rattle.bump_unlocked.specs.Touches.{touched_sheet, is_attempted, AreFindings}
use Rattle.bump_unlocked.specs.Attempts as told
use Rattle.bump_unlocked.specs.Attempts.{Attempted, attempted_sheet}
use Rattle.bump_unlocked.proofs.AttemptLemmas.{still_fetched, unsent, with_sheet}

-- a sheet with more steps
abbrev with_steps : WorkerSheet → List OwnStep → WorkerSheet
with_steps p steps = record p { steps = steps }

abbrev found_only : Head → Head → Findings
found_only a b = record { first = a; second = b; look = a; failed = []; room = Known; back = a; cleared = a }

-- a touch that attempts no bump found no more
only : (limit : ℕ) (l : ItemId) (t : Touch) (a b : Head) → IsHeadOf l a → (makes_second a ≡ true → IsHeadOf l b)
    → is_attempted t ≡ false → AreFindings limit l t (found_only a b)
only limit l t a b first second none = record {
  first = first;
  second = second;
  looks = λ e. absurd (true≢false (sym e ∙ none));
  back = λ e. never dropped.Full e;
  cleared = λ d e. never d e;
  fetched = λ d e. never d e;
}
  where
    never : {A : Type 0} (d : Dropped) → t ≡ touch.Dropped d → A
    never d e = absurd (true≢false (sym (ap is_attempted e) ∙ none))

-- ---- what the hit table says, by the marks and the segment found

-- by the mark that the first step found
abbrev by_mark : Bool → Head → Hit
by_mark active b = if active then hit.Already else hit_by_second b

by_first : (a b : Head) → a.fetched ≡ false → hit_of a b ≡ hit.First
by_first a b clear = ap (λ (x : Bool). if not x then hit.First else by_mark a.active b) clear

by_active : (a b : Head) → a.fetched ≡ true → a.active ≡ true → hit_of a b ≡ hit.Already
by_active a b fetched active =
    ap (λ (x : Bool). if not x then hit.First else by_mark a.active b) fetched ∙ ap (λ (x : Bool). by_mark x b) active

by_second : (a b : Head) → a.fetched ≡ true → a.active ≡ false → hit_of a b ≡ hit_by_second b
by_second a b fetched clear =
    ap (λ (x : Bool). if not x then hit.First else by_mark a.active b) fetched ∙ ap (λ (x : Bool). by_mark x b) clear

-- by the segment that the second step found
abbrev by_segment : Bool → Hit
by_segment cold = if cold then hit.Attempts else hit.Marked

second_marked : (b : Head) (cold : Bool) → b.active ≡ false → is_cold b.segment ≡ cold
    → hit_by_second b ≡ by_segment cold
second_marked b cold clear is =
    ap (λ (x : Bool). if x then hit.Already else by_segment (is_cold b.segment)) clear ∙ ap by_segment is

second_active : (b : Head) → b.active ≡ true → hit_by_second b ≡ hit.Already
second_active b active = ap (λ (x : Bool). if x then hit.Already else by_segment (is_cold b.segment)) active

-- ---- what the steps leave of the worker

-- a second step that found ACTIVE set is noted alone
unmarked : (l : ItemId) (h : Head) (p : WorkerSheet) → h.active ≡ true
    → worker_after_mark l h p ≡ noted kind.Mark l.chunk (word_of h) p
unmarked l h p active = let q = noted kind.Mark l.chunk (word_of h) p in
    ap (λ (x : Bool). if not x && is_cold h.segment then attempting l q else q) active

-- one that found it clear attempts a bump in COLD
marked : (l : ItemId) (h : Head) (p : WorkerSheet) (cold : Bool) → h.active ≡ false → is_cold h.segment ≡ cold
    → let q = noted kind.Mark l.chunk (word_of h) p in worker_after_mark l h p ≡ (if cold then attempting l q else q)
marked l h p cold clear is = let q = noted kind.Mark l.chunk (word_of h) p in
    ap (λ (x : Bool). if not x && is_cold h.segment then attempting l q else q) clear
    ∙ ap (λ (x : Bool). if x then attempting l q else q) is

-- and in each case it is noted
marked_steps : (l : ItemId) (h : Head) (p : WorkerSheet)
    → (worker_after_mark l h p).steps ≡ p.steps ++ own_step kind.Mark l h ∷ []
marked_steps l h p = by (not h.active && is_cold h.segment)
  where
    q : WorkerSheet
    q = noted kind.Mark l.chunk (word_of h) p

    by : (x : Bool) → (if x then attempting l q else q).steps ≡ p.steps ++ own_step kind.Mark l h ∷ []
    by true = refl
    by false = refl

-- so a worker that set FETCHED of the life still has
pub fetched_still : (l : ItemId) (h : Head) (v w : WorkerView) → w ≡ record v { sheet = worker_after_mark l h v.sheet }
    → 0 < fetches_of l v.sheet → 0 < fetches_of l w.sheet
fetched_still l h v w is has =
    still_fetched l v.sheet w.sheet (own_step kind.Mark l h ∷ [])
    (ap (λ (y : WorkerView). y.sheet.steps) is ∙ marked_steps l h v.sheet) has

-- the sheet after the first step, on a life that was hit before
refetched : (l : ItemId) (h : Head) (p : WorkerSheet) → h.fetched ≡ true
    → worker_after_fetch l h p ≡ noted kind.Fetch l.chunk (word_of h) p
refetched l h p fetched =
    ap (λ (x : Bool). record (noted kind.Fetch l.chunk (word_of h) p) { hits = hits_after x l p.hits }) fetched

-- ---- the answers

module _ (limit : ℕ) (l : ItemId) (now : ℕ) (v : WorkerView) (s : SenderView) where
  -- the sheet after a step that set FETCHED, or ACTIVE, and changed nothing else
  abbrev refetch : WorkerSheet → Head → WorkerSheet
  refetch p a = noted kind.Fetch l.chunk (word_of a) p

  abbrev remark : WorkerSheet → Head → WorkerSheet
  remark p b = noted kind.Mark l.chunk (word_of b) p

  -- the steps of a hit that found ACTIVE set
  abbrev already_sheet : Bool → Findings → WorkerSheet
  already_sheet second f = with_steps v.sheet (v.sheet.steps ++ own_step kind.Fetch l f.first ∷ second_steps second l f)

  pub first : (w : WorkerView) (t : SenderView) (a : Head) → w ≡ record v { sheet = worker_after_fetch l a v.sheet }
      → IsHeadOf l a → a.fetched ≡ false → count_of l v.sheet.hits ≡ 0 → t ≡ s
      → (f : Findings) × told.Hit limit l now v w s t touch.First f
  first w t a after head clear new same = let f : Findings = found_only a a in (
    f,
    record {
      findings = only limit l _ _ _ head (λ e. head) refl;
      room = λ e. absurd (cc e);
      answer = ap (λ (x : Hit). touch_of x (why_dropped limit f) (length s.sent)) (sym (by_first a a clear));
      sheet = after
          ∙ ap (λ (x : Bool). with_sheet v (record (refetch v.sheet a) { hits = hits_after x l v.sheet.hits })) clear;
      sender = unsent s t same;
      first = λ e. new;
    },
  )

  pub already : (w : WorkerView) (t : SenderView) (a : Head) → w ≡ record v { sheet = worker_after_fetch l a v.sheet }
      → IsHeadOf l a → a.fetched ≡ true → a.active ≡ true → t ≡ s
      → (f : Findings) × told.Hit limit l now v w s t touch.Already f
  already w t a after head fetched active same =
      let second : makes_second a ≡ false =
      ap (λ (x : Bool). a.fetched && not x) active ∙ ap (λ (x : Bool). x && false) fetched in
      let f : Findings = found_only a a in (
        f,
        record {
          findings = only limit l _ _ _ head (λ e. head) refl;
          room = λ e. absurd (cc e);
          answer =
              ap (λ (x : Hit). touch_of x (why_dropped limit f) (length s.sent)) (sym (by_active a a fetched active));
          sheet = after ∙ ap (with_sheet v) (refetched l a v.sheet fetched)
              ∙ ap (λ (x : Bool). with_sheet v (already_sheet x f)) (sym second);
          sender = unsent s t same;
          first = λ e. absurd (cc e);
        },
      )

  module _ (u : WorkerView) (a b : Head) (after : u ≡ record v { sheet = worker_after_fetch l a v.sheet })
      (head : IsHeadOf l a) (fetched : a.fetched ≡ true) (clear : a.active ≡ false) (head' : IsHeadOf l b) where
    refetched_worker : u ≡ with_sheet v (refetch v.sheet a)
    refetched_worker = after ∙ ap (with_sheet v) (refetched l a v.sheet fetched)

    -- the two steps and what follows them are one list
    two_steps : (more : List OwnStep)
        → ((v.sheet.steps ++ own_step kind.Fetch l a ∷ []) ++ own_step kind.Mark l b ∷ []) ++ more
        ≡ v.sheet.steps ++ own_step kind.Fetch l a ∷ own_step kind.Mark l b ∷ more
    two_steps more = append_assoc (v.sheet.steps ++ own_step kind.Fetch l a ∷ []) (own_step kind.Mark l b ∷ []) more
        ∙ append_assoc v.sheet.steps (own_step kind.Fetch l a ∷ []) (own_step kind.Mark l b ∷ more)

    pub already_active : (w : WorkerView) (t : SenderView) → w ≡ record u { sheet = worker_after_mark l b u.sheet }
        → b.active ≡ true → t ≡ s → (f : Findings) × told.Hit limit l now v w s t touch.Already f
    already_active w t next active same =
        let second : makes_second a ≡ true =
        ap (λ (x : Bool). a.fetched && not x) clear ∙ ap (λ (x : Bool). x && true) fetched in
        let f : Findings = found_only a b in (
          f,
          record {
            findings = only limit l _ _ _ head (λ e. head') refl;
            room = λ e. absurd (cc e);
            answer = ap (λ (x : Hit). touch_of x (why_dropped limit f) (length s.sent))
                (sym (by_second a b fetched clear ∙ second_active b active));
            sheet = next ∙ ap (λ (y : WorkerView). record y { sheet = worker_after_mark l b y.sheet }) refetched_worker
                ∙ ap (with_sheet v) (unmarked l b (refetch v.sheet a) active)
                ∙ ap (λ (x : List OwnStep). with_sheet v (with_steps v.sheet x))
                (append_assoc v.sheet.steps (own_step kind.Fetch l a ∷ []) (own_step kind.Mark l b ∷ []))
                ∙ ap (λ (x : Bool). with_sheet v (already_sheet x f)) (sym second);
            sender = unsent s t same;
            first = λ e. absurd (cc e);
          },
        )

    -- a second step that found ACTIVE clear
    second_worker : (w : WorkerView) (cold : Bool) → w ≡ record u { sheet = worker_after_mark l b u.sheet }
        → b.active ≡ false → is_cold b.segment ≡ cold
        → let q = remark (refetch v.sheet a) b in w ≡ with_sheet v (if cold then attempting l q else q)
    second_worker w cold next clear' is =
        next ∙ ap (λ (y : WorkerView). record y { sheet = worker_after_mark l b y.sheet }) refetched_worker
        ∙ ap (with_sheet v) (marked l b (refetch v.sheet a) cold clear' is)

    pub timed : (w x : WorkerView) (t : SenderView) → w ≡ record u { sheet = worker_after_mark l b u.sheet }
        → b.active ≡ false → is_cold b.segment ≡ false
        → x ≡ record w { sheet = worker_after_store_time l now w.sheet } → t ≡ s
        → (f : Findings) × told.Hit limit l now v x s t touch.Marked f
    timed w x t next clear' warm last same = let f : Findings = found_only a b in (
      f,
      record {
        findings = only limit l _ _ _ head (λ e. head') refl;
        room = λ e. absurd (cc e);
        answer =
            ap (λ (y : Hit). touch_of y (why_dropped limit f) (length s.sent))
            (sym (by_second a b fetched clear ∙ second_marked b false clear' warm));
        sheet = last ∙ ap (λ (y : WorkerView). record y { sheet = worker_after_store_time l now y.sheet })
            (second_worker w false next clear' warm)
            ∙ ap (λ (y : List OwnStep). with_sheet v (with_steps v.sheet y))
            (two_steps (step_of kind.StoreTime l.chunk now None ∷ []));
        sender = unsent s t same;
        first = λ e. absurd (cc e);
      },
    )

    -- the worker when its attempt begins
    abbrev trying_sheet : WorkerSheet
    trying_sheet = attempting l (remark (refetch v.sheet a) b)

    -- what an attempt leaves of the worker, counted from before the first step
    attempt_sheet : (d : Option Dropped) (n : ℕ) (k : Findings) → v.sheet.hand ≡ hand.Idle
        → attempted_sheet (attempted_of d n) l k trying_sheet
        ≡ touched_sheet (attempted_of d n) l now (record k { first = a; second = b }) v.sheet
    attempt_sheet d n k idle = by d
      where
        both : Touch → WorkerSheet
        both t = touched_sheet t l now (record k { first = a; second = b }) v.sheet

        told : (t : Touch) (ys : List OwnStep)
            → record (both t) {
              hand = hand.Idle;
              steps = ((v.sheet.steps ++ own_step kind.Fetch l a ∷ []) ++ own_step kind.Mark l b ∷ []) ++ ys;
            }
            ≡ with_steps (both t) (v.sheet.steps ++ own_step kind.Fetch l a ∷ own_step kind.Mark l b ∷ ys)
        told t ys = λ i. record (both t) { hand = sym idle i; steps = two_steps ys i }

        by : (d : Option Dropped) → attempted_sheet (attempted_of d n) l k trying_sheet ≡ both (attempted_of d n)
        by None = told (touch.Queued n) (attempt_steps (touch.Queued n) l k)
        by (Some dropped.Full) = told (touch.Dropped dropped.Full) (attempt_steps (touch.Dropped dropped.Full) l k)
        by (Some dropped.Busy) = told (touch.Dropped dropped.Busy) (attempt_steps (touch.Dropped dropped.Busy) l k)
        by (Some dropped.RefsFull) =
            told (touch.Dropped dropped.RefsFull) (attempt_steps (touch.Dropped dropped.RefsFull) l k)

    pub attempts : (w x : WorkerView) (t : SenderView) (answered : Touch)
        → w ≡ record u { sheet = worker_after_mark l b u.sheet } → b.active ≡ false → is_cold b.segment ≡ true
        → v.sheet.hand ≡ hand.Idle → (f : Findings) × Attempted limit l w x s t answered f
        → (f : Findings) × told.Hit limit l now v x s t answered f
    attempts w x t answered next clear' cold idle did =
        let k : Findings = did.0 in
        let m = did.1 in
        let f : Findings = record k { first = a; second = b } in
        let marks : w ≡ with_sheet v trying_sheet = second_worker w true next clear' cold in (
          f,
          record {
            findings = record {
              first = head;
              second = λ e. head';
              looks = λ e. m.looks;
              back = m.back;
              cleared = m.cleared;
              fetched = m.fetched;
            };
            room = m.room;
            answer = m.answer
                ∙ ap (λ (y : Hit). touch_of y (why_dropped limit f) (length s.sent))
                (sym (by_second a b fetched clear ∙ second_marked b true clear' cold));
            sheet = m.sheet ∙ ap (λ (y : WorkerView). record y { sheet = attempted_sheet answered l k y.sheet }) marks
                ∙ ap (λ (y : Touch). with_sheet v (attempted_sheet y l k trying_sheet)) m.answer
                ∙ ap (with_sheet v) (attempt_sheet (why_dropped limit f) (length s.sent) k idle)
                ∙ ap (λ (y : Touch). with_sheet v (touched_sheet y l now f v.sheet)) (sym m.answer);
            sender = m.sender ∙ ap (λ (y : WorkerView). told.offered answered l y s) marks;
            first = λ e. absurd (never (why_dropped limit f) (length s.sent) (sym m.answer ∙ e));
          },
        )
      where
        never : (d : Option Dropped) (n : ℕ) → attempted_of d n ≡ touch.First → ⊥
        never None n e = cc e
        never (Some d) n e = cc e
