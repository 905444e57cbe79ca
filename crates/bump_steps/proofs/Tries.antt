-- How the heads that an attempt found grow, for a hold or for a bump; and what a call of `take` comes to.
use Rattle.std.proofs.Common.{◌≡◌, ◌≢◌, ℕ, zero, suc, ◌+◌, ◌/◌, ◌^◌, ◌<◌, ◌≤◌, Bool, List, [], ◌∷◌, ◌++◌, length, Option, Some, None, refl, sym, ap, ap₂, ◌∙◌, subst, arith, eq-eqb, ne_eqb, append_assoc, append-nil, length-append, option_map}
use Rattle.std.specs.Prelude.{if◌then◌else◌}
use Rattle.bump_rules.specs.declared.items.Head.{Head}
use Rattle.bump_rules.specs.declared.items.ItemId.{ItemId}
use Rattle.bump_rules.specs.Lives.{life}
use Rattle.bump_rules.specs.Tables.{Get, IsHeld, IsStale, IsRefsFull, get_of}
use Rattle.bump_word.specs.Layout.{generation_first}
use Rattle.bump_word.specs.Words.{Fits, Spells, word_of}
use Rattle.bump_word.proofs.Words.{fields, one_head}
use Rattle.bump_steps.specs.declared.refusals.AnyRefusal.{AnyRefusal}
use Rattle.bump_steps.specs.declared.refusals.TakeRefusal.{TakeRefusal}
use Rattle.bump_steps.specs.declared.refusals.TakeRefusal.TheVariants.{Busy}
use Rattle.bump_steps.specs.declared.views.Kind.TheVariants as kind
use Rattle.bump_steps.specs.declared.views.OwnStep.{OwnStep}
use Rattle.bump_steps.specs.declared.views.View.{View}
use Rattle.bump_steps.specs.declared.views.WorkerSheet.{WorkerSheet}
use Rattle.bump_steps.specs.Marks.{on_worker}
use Rattle.bump_steps.specs.Rule.{RowPredicate}
use Rattle.bump_steps.specs.Plays.{Sat, HasWorker, on_first, step_of}
use Rattle.bump_steps.specs.References.{new_hold, view_after_load, view_after_failed, load_to_take_tells, worker_after_take, view_after_take, IsRow, words_in, take_tells}
use Rattle.bump_steps.specs.Tries.{last_found, AreAll, AreTries, AttemptFound, AskedFound, refused_by, take_refused, asked_refusal, failures, load_and_failures, takes, with_more, held_by, asked_life, view_after_attempt, any_refusal}
use Rattle.bump_steps.proofs.Referring.{held_is}

-- ---- lists of heads and of steps

-- one more head is found
all_push : (Is : Head → Type 0) (h : Head) (more : List Head) (k : Head) → AreAll Is h more → Is k
    → AreAll Is h (more ++ k ∷ [])
all_push Is h [] k are is = (are, is)
all_push Is h (j ∷ more) k are is = (are.0, all_push Is j more k are.1 is)

-- after one more exchange that failed
tries_push : (IsOpen : Head → Type 0) (h : Head) (more : List Head) (k : Head) → AreTries IsOpen h more
    → IsOpen (last_found h more)
    → k ≢ last_found h more → AreTries IsOpen h (more ++ k ∷ [])
tries_push IsOpen h [] k are is other = (is, other, tt)
tries_push IsOpen h (j ∷ more) k are is other = (are.0, are.1, tries_push IsOpen j more k are.2 is other)

-- what was found last is the last
last_push : (h : Head) (more : List Head) (k : Head) → last_found h (more ++ k ∷ []) ≡ k
last_push h [] k = refl
last_push h (j ∷ more) k = last_push j more k

-- the last head is as each has to be
pub last_is_one : (Is : Head → Type 0) (h : Head) (more : List Head) → AreAll Is h more → Is (last_found h more)
last_is_one Is h [] are = are
last_is_one Is h (k ∷ more) are = last_is_one Is k more are.1

-- one exchange more that failed
failures_push : (c : ℕ) (hs : List Head) (k : Head) → failures c (hs ++ k ∷ []) ≡ failures c hs ++ step_of kind.Failed c
    (word_of k) None ∷ []
failures_push c [] k = refl
failures_push c (h ∷ hs) k =
    ap (λ (l : List OwnStep). step_of kind.Failed c (word_of h) None ∷ l) (failures_push c hs k)

looks_push : (c : ℕ) (h : Head) (hs : List Head) (k : Head) → load_and_failures c h (hs ++ k ∷ []) ≡ load_and_failures c h hs
    ++ step_of kind.Failed c (word_of k) None ∷ []
looks_push c h hs k = ap (λ (l : List OwnStep). step_of kind.Load c (word_of h) None ∷ l) (failures_push c hs k)

-- two changes of the first element, one after the other
pub first_again : {A : Type 0} (f g : A → A) (l : List A) → on_first g (on_first f l) ≡ on_first (λ x. g (f x)) l
first_again f g [] = refl
first_again f g (x ∷ xs) = refl

-- steps that are made one after the other
pub more_again : (s t : List OwnStep) (v : View) → on_worker (with_more t) (on_worker (with_more s) v) ≡ on_worker
    (with_more (s ++ t)) v
more_again s t v = ap (λ (ws : List WorkerSheet). record v { workers = ws })
    (first_again (with_more s) (with_more t) v.workers
    ∙ ap (λ (f : WorkerSheet → WorkerSheet). on_first f v.workers)
    (λ i w. record w { steps = append_assoc w.steps s t i }))

-- behind these steps the worker took this hold, or was refused
abbrev asked_sheet : List OwnStep → ℕ → Head → Option TakeRefusal → ItemId → List ℕ → WorkerSheet → WorkerSheet
asked_sheet steps c k o l row w =
    record w { steps = w.steps ++ (steps ++ takes c o k); taken = held_by o l row w.taken }

-- a hold is taken behind these steps
take_again : (s : List OwnStep) (c : ℕ) (k : Head) (row : List ℕ) (v : View)
    → on_worker (worker_after_take c (word_of k) row) (on_worker (with_more s) v)
    ≡ on_worker (asked_sheet s c k None (life c (word_of k / 2 ^ generation_first)) row) v
take_again s c k row v = ap (λ (ws : List WorkerSheet). record v { workers = ws })
    (first_again (with_more s) (worker_after_take c (word_of k) row) v.workers
    ∙ ap (λ (f : WorkerSheet → WorkerSheet). on_first f v.workers)
    (λ i w. record w {
      steps = append_assoc w.steps s (step_of kind.Take c (word_of k) None ∷ []) i;
      taken = new_hold (life c (word_of k / 2 ^ generation_first)) row ∷ w.taken;
    }))

-- a change of the first element leaves as many
some_first : {A : Type 0} (f : A → A) (l : List A) → 0 < length l → 0 < length (on_first f l)
some_first f [] some = some
some_first f (x ∷ xs) some = some

-- ---- an attempt

-- So many exchanges failed, and the last step found the word. What the seat's view is by then, and why the attempt ends
-- here, if it does, differs: `refused` and `seen` are told of an attempt of one kind.
pub record Trying {Refusal : Type 0} (Is IsOpen : Head → Type 0) (refused : ℕ → Head → Option Refusal)
    (seen : Option Refusal → List OwnStep → View → View) (c : ℕ) (before now : Sat) (word failed : ℕ) (first : Head)
    (more : List Head)
    : Type 0 where
  pub heads : AreAll Is first more
  pub tries : AreTries IsOpen first more
  pub count : length more ≡ failed
  pub last : word ≡ word_of (last_found first more)
  pub view : now ≡ (seen (refused (length more) (last_found first more)) (load_and_failures c first more) before.0, before.1)

module _ {Refusal : Type 0} (Is IsOpen : Head → Type 0) (refused : ℕ → Head → Option Refusal)
    (seen : Option Refusal → List OwnStep → View → View) (c : ℕ) (fits : (h : Head) → Is h → Fits h) (before : Sat)
  where
    -- after the load
    pub tries_start : (now : Sat) (word : ℕ) (h : Head) → Spells word h → Is h
        → now ≡ (seen (refused 0 h) (load_and_failures c h []) before.0, before.1)
        → (first : Head) × (more : List Head) × Trying Is IsOpen refused seen c before now word 0 first more
    tries_start now word h spelled is view =
        (h, [], record { heads = is; tries = tt; count = refl; last = spelled.0; view = view })

    module _ (now : Sat) (word failed : ℕ) (first : Head) (more : List Head)
        (y : Trying Is IsOpen refused seen c before now word failed first more) where
      -- the word is that of a head
      pub has_head : (h : Head) × Spells word h
      has_head = (last_found first more, (y.last, fits (last_found first more) (last_is_one Is first more y.heads)))

      -- which is the last one
      pub last_is : (h : Head) → Spells word h → last_found first more ≡ h
      last_is h spelled = one_head word (last_found first more) h
          (y.last, fits (last_found first more) (last_is_one Is first more y.heads)) spelled

      -- by it the attempt ends, or goes on
      pub refused_is : (h : Head) → Spells word h → refused (length more) (last_found first more) ≡ refused failed h
      refused_is h spelled = ap₂ refused y.count (last_is h spelled)

      -- what is known of it
      pub view_is : (h : Head) → Spells word h → (o : Option Refusal) → refused failed h ≡ o
          → now ≡ (seen o (load_and_failures c first more) before.0, before.1)
      view_is h spelled o is = y.view
          ∙ ap (λ (x : Option Refusal). (seen x (load_and_failures c first more) before.0, before.1))
          (refused_is h spelled ∙ is)

      -- an exchange failed
      pub goes_on : (h : Head) → Spells word h → IsOpen h → refused failed h ≡ None → (next : Sat) (found : ℕ)
          → found ≢ word → (k : Head)
          → Spells found k → Is k
          → ((s : List OwnStep) → now ≡ (seen None s before.0, before.1)
          → next ≡ (
            seen (refused (failed + 1) k) (s ++ step_of kind.Failed c (word_of k) None ∷ []) before.0,
            before.1,
          ))
          → (j : Head) × Trying Is IsOpen refused seen c before next found (failed + 1) first (more ++ j ∷ [])
      goes_on h spelled is_open none next found miss k other is step =
          let count : length (more ++ k ∷ []) ≡ failed + 1 = omega (arith, length-append more (k ∷ []), y.count) in (
            k,
            record {
              heads = all_push Is first more k y.heads is;
              tries = tries_push IsOpen first more k y.tries (subst IsOpen (sym (last_is h spelled)) is_open)
                  (λ e. miss (other.0 ∙ ap word_of e ∙ sym y.last));
              count = count;
              last = other.0 ∙ ap word_of (sym (last_push first more k));
              view = step (load_and_failures c first more) (view_is h spelled None none)
                  ∙ ap₂ (λ (o : Option Refusal) (s : List OwnStep). (seen o s before.0, before.1))
                  (sym (ap₂ refused count (last_push first more k))) (sym (looks_push c first more k));
            },
          )

      -- what was found when it is over
      pub found_so : failed ≤ 8 → AttemptFound Is IsOpen first more
      found_so few = record { heads = y.heads; tries = y.tries; most = omega (arith, y.count, few) }

-- ---- for a hold

-- where the get table doesn't refuse, a get is a hold
pub unrefused : (get : Get) → refused_by get ≡ None → get ≡ IsHeld
unrefused IsStale is = absurd (cc is)
unrefused IsRefsFull is = absurd (cc is)
unrefused IsHeld is = refl

-- the view after these loads
abbrev pub seen_to_take : Option TakeRefusal → List OwnStep → View → View
seen_to_take o steps v = on_worker (with_more steps) v

-- So many exchanges of a call that asks for a hold failed, and the last step found the word.
abbrev pub TryingToTake : ℕ → (Head → ℕ) → ℕ → Sat → Sat → ℕ → ℕ → Head → List Head → Type 0
TryingToTake limit asked c before now word failed first more =
    Trying Fits (λ h. get_of limit (asked h) h ≡ IsHeld) (take_refused limit asked) seen_to_take c before now
    word failed first more

-- what the call comes to
pub record TakesSo (law : RowPredicate) (limit slots : ℕ) (asked : Head → ℕ) (c : ℕ) (before after : Sat) (answered : Option TakeRefusal)
    (first : Head) (more : List Head)
    : Type 0 where
  pub row : List ℕ
  pub long : IsRow slots row
  pub found : AskedFound limit asked first more
  pub view : after ≡ (view_after_attempt limit asked c first more row before.0, before.1)
  pub answer : answered ≡ asked_refusal limit asked first more
  pub obeys : answered ≡ None → law (words_in row)

-- some row
abbrev row_of_zeros : ℕ → List ℕ
row_of_zeros zero = []
row_of_zeros (suc n) = 0 ∷ row_of_zeros n

zeros_long : (n : ℕ) → length (row_of_zeros n) ≡ n
zeros_long zero = refl
zeros_long (suc n) = ap suc (zeros_long n)

module _ (law : RowPredicate) (limit slots : ℕ) (asked : Head → ℕ) (c : ℕ) (before : Sat) where
  abbrev open_to_take : Head → Type 0
  open_to_take h = get_of limit (asked h) h ≡ IsHeld

  -- after the load
  pub take_starts : (now : Sat) (word x : ℕ) → load_to_take_tells c x before word now
      → (first : Head) × (more : List Head) × TryingToTake limit asked c before now word 0 first more
  take_starts now word x t = tries_start Fits open_to_take (take_refused limit asked) seen_to_take c
      (λ h fits. fits) before now word
      t.1.0 t.1.1 t.1.1.1 (t.0 ∙ ap (λ (n : ℕ). (view_after_load c n before.0, before.1)) t.1.1.0)

  module _ (now : Sat) (word failed : ℕ) (first : Head) (more : List Head)
      (y : TryingToTake limit asked c before now word failed first more)
    where
      -- the seat still has its worker's sheet
      pub still_working : HasWorker before.0 → HasWorker now.0
      still_working some = subst (λ (m : Sat). HasWorker m.0) (sym y.view)
          (some_first (with_more (load_and_failures c first more)) before.0.workers some)

      -- the word is that of a head
      pub take_head : (h : Head) × Spells word h
      take_head = has_head Fits open_to_take (take_refused limit asked) seen_to_take c (λ h fits. fits) before now
          word failed first more y

      -- by fewer than 8 exchanges that failed, the get table decides
      decides : failed < 8 → (h : Head) → take_refused limit asked failed h ≡ refused_by (get_of limit (asked h) h)
      decides few h = ap (λ (b : Bool). if b then Some Busy else refused_by (get_of limit (asked h) h))
          (ne_eqb failed 8 (λ e. absurd (omega (arith, e, few))))

      refusal_is : (h : Head) → Spells word h → asked_refusal limit asked first more ≡ take_refused limit asked failed h
      refusal_is h spelled = refused_is Fits open_to_take (take_refused limit asked) seen_to_take c (λ h fits. fits)
          before now word
          failed first more y h spelled

      -- the head is the one that was found last
      pub last_head : (h : Head) → Spells word h → last_found first more ≡ h
      last_head h spelled = last_is Fits open_to_take (take_refused limit asked) seen_to_take c (λ h fits. fits)
          before now word failed first more y h spelled

      -- an exchange failed
      pub take_goes_on : failed < 8 → (h : Head) → Spells word h → refused_by (get_of limit (asked h) h) ≡ None
          → (next : Sat) (found : ℕ)
          → found ≢ word → take_tells law slots c word now found next
          → (k : Head) × TryingToTake limit asked c before next found (failed + 1) first (more ++ k ∷ [])
      take_goes_on few h spelled can next found miss t = let k : Head = t.2.0 in
          goes_on Fits open_to_take (take_refused limit asked) seen_to_take c (λ h fits. fits) before now word failed
          first more y
          h spelled (unrefused (get_of limit (asked h) h) can) (decides few h ∙ can) next found miss k t.2.1 t.2.1.1
          (λ s view. t.1 miss ∙ ap₂ (λ (n : ℕ) (m : Sat). (view_after_failed c n m.0, m.1)) t.2.1.0 view
          ∙ ap (λ (v : View). (v, before.1))
          (more_again s (step_of kind.Failed c (word_of k) None ∷ []) before.0))

      -- a refusal adds no step
      take_stays : (r : TakeRefusal) → failed ≤ 8 → asked_refusal limit asked first more ≡ Some r
          → TakesSo law limit slots asked c before now (Some r) first more
      take_stays r few is = record {
        row = row_of_zeros (slots + 1);
        long = zeros_long (slots + 1);
        found = found_so Fits open_to_take (take_refused limit asked) seen_to_take c (λ h fits. fits) before now
            word failed first more y few;
        view = y.view
            ∙ ap (λ (s : List OwnStep). (on_worker (with_more s) before.0, before.1))
            (sym (append-nil (load_and_failures c first more)))
            ∙ ap (λ (o : Option TakeRefusal). (
              record before.0 {
                workers = on_first
                    (asked_sheet (load_and_failures c first more) c (last_found first more) o
                    (asked_life asked c first more) (row_of_zeros (slots + 1)))
                    before.0.workers;
                holds = held_by o (asked_life asked c first more) (row_of_zeros (slots + 1)) before.0.holds;
              },
              before.1,
            )) (sym is);
        answer = sym is;
        obeys = λ none. absurd (cc none);
      }

      -- the get table refuses
      pub take_refuses : failed < 8 → (h : Head) → Spells word h → (r : TakeRefusal)
          → refused_by (get_of limit (asked h) h) ≡ Some r
          → TakesSo law limit slots asked c before now (Some r) first more
      take_refuses few h spelled r is = take_stays r (omega (arith, few)) (refusal_is h spelled ∙ decides few h ∙ is)

      -- 8 exchanges failed
      pub take_gives_up : failed ≡ 8 → TakesSo law limit slots asked c before now (Some Busy) first more
      take_gives_up all = take_stays Busy (omega (arith, all)) (ap
          (λ (b : Bool). if b then Some Busy else refused_by
          (get_of limit (asked (last_found first more)) (last_found first more)))
          (eq-eqb (length more) 8 (y.count ∙ all)))

      -- an exchange found the word that it expects
      pub takes_it : failed < 8 → (h : Head) → Spells word h → refused_by (get_of limit (asked h) h) ≡ None
          → (next : Sat) (found : ℕ)
          → found ≡ word → take_tells law slots c word now found next
          → TakesSo law limit slots asked c before next None first more
      takes_it few h spelled can next found hit t =
          let k : Head = last_found first more in
          let is : asked_refusal limit asked first more ≡ None = refusal_is h spelled ∙ decides few h ∙ can in
          let now_is : k ≡ h = last_head h spelled in
          let held : get_of limit (asked k) k ≡ IsHeld = ap (λ (j : Head). get_of limit (asked j) j) now_is
          ∙ unrefused (get_of limit (asked h) h) can in
          let gen : word_of k / 2 ^ generation_first ≡ asked k =
          (fields (word_of k) k (refl, last_is_one Fits first more y.heads)).generation
          ∙ (held_is limit (asked k) k held).1 in
          let took = t.0 hit in record {
            row = took.0;
            long = took.1;
            found = found_so Fits open_to_take (take_refused limit asked) seen_to_take c (λ h fits. fits) before now
                word failed first more y (omega (arith, few));
            view = took.3 ∙ ap₂ (λ (n : ℕ) (m : Sat). (view_after_take c n took.0 m.0, m.1)) (hit ∙ y.last) y.view
                ∙ ap₂ (λ (v : View) (g : ℕ). (
                  record v { holds = new_hold (life c g) took.0 ∷ before.0.holds },
                  before.1,
                ))
                (take_again (load_and_failures c first more) c k took.0 before.0) gen
                ∙ ap (λ (g : ℕ). (
                  record before.0 {
                    workers = on_first
                        (asked_sheet (load_and_failures c first more) c k None (life c g) took.0)
                        before.0.workers;
                    holds = new_hold (life c (asked k)) took.0 ∷ before.0.holds;
                  },
                  before.1,
                )) gen
                ∙ ap (λ (o : Option TakeRefusal). (
                  record before.0 {
                    workers = on_first
                        (asked_sheet (load_and_failures c first more) c k o (life c (asked k)) took.0)
                        before.0.workers;
                    holds = held_by o (life c (asked k)) took.0 before.0.holds;
                  },
                  before.1,
                )) (sym is);
            answer = sym is;
            obeys = λ none. took.2;
          }

-- a call for whatever life is refused as a get of the head's own generation is
pub any_refused : (o : Option TakeRefusal) (r : AnyRefusal) → option_map any_refusal o ≡ Some r
    → (q : TakeRefusal) × (o ≡ Some q) × (r ≡ any_refusal q)
any_refused None r is = absurd (cc is)
any_refused (Some q) r is = (q, refl, cc is)

pub any_taken : (o : Option TakeRefusal) → option_map any_refusal o ≡ None → o ≡ None
any_taken None is = refl
any_taken (Some q) is = absurd (cc is)
