-- How many steps a get and a touch make.
use Rattle.std.proofs.Common.{◌≡◌, ℕ, ◌+◌, ◌≤◌, Bool, true, false, cond, ◌==◌, nat_lt, ltb, if◌then◌else◌, List, []}
use Rattle.std.proofs.Common.{◌∷◌, ◌++◌, length, Option, Some, None, refl, sym, ap, ◌∙◌, subst, arith, true≢false}
use Rattle.std.proofs.Common.{Result}
use Rattle.std.proofs.lemmas.Bool.{ltb-false, ltb-true}
use Rattle.bump_rules.specs.declared.items.Head.{Head}
use Rattle.bump_rules.specs.declared.items.ItemId.{ItemId}
use Rattle.bump_rules.specs.declared.commands.Dropped.{Dropped}
use Rattle.bump_rules.specs.declared.commands.Dropped.TheVariants as dropped
use Rattle.bump_rules.specs.declared.commands.Hit.{Hit}
use Rattle.bump_rules.specs.declared.commands.Hit.TheVariants as hit
use Rattle.bump_rules.specs.declared.commands.Room.{Room}
use Rattle.bump_rules.specs.declared.commands.Touch.{Touch}
use Rattle.bump_rules.specs.declared.commands.Touch.TheVariants as touch
use Rattle.bump_rules.specs.Tables.{hit_of, makes_second, get_of, dropped_for_room, touch_of}
use Rattle.bump_rules.specs.Totals.{total}
use Rattle.bump_rules.proofs.Updates.{total_append}
use Rattle.bump_steps.specs.declared.refusals.AnyRefusal.{AnyRefusal}
use Rattle.bump_steps.specs.declared.refusals.TakeRefusal.{TakeRefusal}
use Rattle.bump_steps.specs.declared.refusals.TakeRefusal.TheVariants.{Busy}
use Rattle.bump_steps.specs.declared.views.OwnStep.{OwnStep}
use Rattle.bump_steps.specs.Tries.{failures, load_and_failures, last_found, takes, of_life, of_any, asked_steps, asked_refusal, refused_by}
use Rattle.bump_readers.specs.declared.views.HoldView.{HoldView}
use Rattle.bump_readers.specs.declared.views.WorkerView.{WorkerView}
use Rattle.bump_readers.specs.Taking.{Took, TookAny}
use Rattle.bump_unlocked.specs.StepCounts.{is_load, is_exchange, is_other, MakesAtMost}
use Rattle.bump_unlocked.specs.Touches.{Findings, why_dropped, touch_answer, is_attempted, second_steps, end_steps}
use Rattle.bump_unlocked.specs.Touches.{attempt_steps, touch_steps}

abbrev loads : OwnStep → ℕ
loads x = cond (is_load x) 1 0

abbrev exchanges : OwnStep → ℕ
exchanges x = cond (is_exchange x) 1 0

abbrev others : OwnStep → ℕ
others x = cond (is_other x) 1 0

-- exchanges that failed are exchanges alone
failures_loads : (c : ℕ) (hs : List Head) → total loads (failures c hs) ≡ 0
failures_loads c [] = refl
failures_loads c (h ∷ hs) = omega (arith, failures_loads c hs)

failures_exchanges : (c : ℕ) (hs : List Head) → total exchanges (failures c hs) ≡ length hs
failures_exchanges c [] = refl
failures_exchanges c (h ∷ hs) = omega (arith, failures_exchanges c hs)

failures_others : (c : ℕ) (hs : List Head) → total others (failures c hs) ≡ 0
failures_others c [] = refl
failures_others c (h ∷ hs) = omega (arith, failures_others c hs)

-- a number up to 8 that isn't 8
below : (n : ℕ) → n ≤ 8 → (n == 8) ≡ false → n ≤ 7
below n most is = by (ltb n 8) refl
  where
    by : (b : Bool) → ltb n 8 ≡ b → n ≤ 7
    by true e = omega (arith, ltb-true n 8 e)
    by false e = let eight : n ≡ 8 = omega (arith, most, ltb-false n 8 e) in
        absurd (true≢false (sym (ap (λ (k : ℕ). k == 8) eight) ∙ is))

-- ---- a get

-- where the reference was had an exchange was left
took_left : (all : Bool) (o : Option TakeRefusal) → (if all then Some Busy else o) ≡ None → all ≡ false
took_left true o e = absurd (cc e)
took_left false o e = refl

takes_loads : (c : ℕ) (h : Head) (o : Option TakeRefusal) → total loads (takes c o h) ≡ 0
takes_loads c h None = refl
takes_loads c h (Some why) = refl

takes_exchanges : (c : ℕ) (h : Head) (n : ℕ) (o : Option TakeRefusal) → n ≤ 8 → (o ≡ None → n ≤ 7)
    → n + total exchanges (takes c o h) ≤ 8
takes_exchanges c h n None most left = omega (arith, left refl)
takes_exchanges c h n (Some why) most left = omega (arith, most)

takes_others : (c : ℕ) (h : Head) (o : Option TakeRefusal) → total others (takes c o h) ≡ 0
takes_others c h None = refl
takes_others c h (Some why) = refl

-- the steps of a get that found these heads are few
found_steps : (limit : ℕ) (asked : Head → ℕ) (c : ℕ) (first : Head) (more : List Head) (before after : List OwnStep)
    → length more ≤ 8 → after ≡ before ++ asked_steps limit asked c first more → MakesAtMost 1 8 0 before after
found_steps limit asked c first more before after most grown =
    let decisive = last_found first more in
    let looked = load_and_failures c first more in
    let o = asked_refusal limit asked first more in
    let judged = refused_by (get_of limit (asked decisive) decisive) in
    let left = λ (none : o ≡ None). below (length more) most (took_left (length more == 8) judged none) in
    let last = takes c o decisive in
    let few = takes_exchanges c decisive (length more) o most left in record {
      made = asked_steps limit asked c first more;
      grown = grown;
      few_loads =
          omega (arith, total_append loads looked last, failures_loads c more, takes_loads c decisive o);
      few_exchanges = omega (arith, total_append exchanges looked last, failures_exchanges c more, few);
      few_others =
          omega (arith, total_append others looked last, failures_others c more, takes_others c decisive o);
    }

-- so those of a get are, whichever item it was of
pub get_steps : (limit : ℕ) (l : ItemId) (before after : WorkerView) (answered : Result HoldView TakeRefusal)
    → ((first : Head) × (more : List Head) × Took limit l before after answered first more)
    → MakesAtMost 1 8 0 before.sheet.steps after.sheet.steps
get_steps limit l before after answered t =
    found_steps limit (of_life l) l.chunk t.0 t.1 _ _ t.2.found.most (ap (λ (v : WorkerView). v.sheet.steps) t.2.steps)

-- and those of a get of whatever item is linked
pub get_any_steps : (limit c : ℕ) (before after : WorkerView) (answered : Result (HoldView × Head) AnyRefusal)
    → ((first : Head) × (more : List Head) × TookAny limit c before after answered first more)
    → MakesAtMost 1 8 0 before.sheet.steps after.sheet.steps
get_any_steps limit c before after answered t =
    found_steps limit of_any c t.0 t.1 _ _ t.2.found.most (ap (λ (v : WorkerView). v.sheet.steps) t.2.steps)

-- ---- a touch

second_loads : (two : Bool) (l : ItemId) (f : Findings) → total loads (second_steps two l f) ≡ 0
second_loads true l f = refl
second_loads false l f = refl

second_exchanges : (two : Bool) (l : ItemId) (f : Findings) → total exchanges (second_steps two l f) ≡ 0
second_exchanges true l f = refl
second_exchanges false l f = refl

second_others : (two : Bool) (l : ItemId) (f : Findings) → total others (second_steps two l f) ≤ 1
second_others true l f = omega arith
second_others false l f = omega arith

-- why an attempt is dropped, by whether all exchanges failed, whether there was room for a reference, and the ring
abbrev drop_by : Bool → Bool → Room → Option Dropped
drop_by all below room =
    dropped_for_room room (if all then Some dropped.Busy else (if below then None else Some dropped.RefsFull))

-- where the reference was had an exchange was left
had : (all below : Bool) (room : Room) → drop_by all below room ≡ None → all ≡ false
had true below room e = absurd (cc e)
had false below room e = refl

had_full : (all below : Bool) (room : Room) → drop_by all below room ≡ Some dropped.Full → all ≡ false
had_full true below room e = absurd (cc e)
had_full false below room e = refl

module _ (limit : ℕ) (l : ItemId) (now : ℕ) (f : Findings) (n : ℕ) where
  -- the load and the exchanges that failed
  abbrev looked : List OwnStep
  looked = load_and_failures l.chunk f.look f.failed

  -- how many loads, exchanges and others an attempt makes that ends so
  attempt_loads : (t : Touch) → total loads (attempt_steps t l f) ≡ 1 + total loads (end_steps t l f)
  attempt_loads t = omega (arith, total_append loads looked (end_steps t l f), failures_loads l.chunk f.failed)

  attempt_exchanges : (t : Touch) → total exchanges (attempt_steps t l f) ≡ length f.failed
      + total exchanges (end_steps t l f)
  attempt_exchanges t =
      omega (arith, total_append exchanges looked (end_steps t l f), failures_exchanges l.chunk f.failed)

  attempt_others : (t : Touch) → total others (attempt_steps t l f) ≡ total others (end_steps t l f)
  attempt_others t = omega (arith, total_append others looked (end_steps t l f), failures_others l.chunk f.failed)

  few_loads : total loads (touch_steps (touch_answer limit f n) l now f) ≤ 1
  few_loads = by (hit_of f.first f.second) (why_dropped limit f)
    where
      by : (h : Hit) (d : Option Dropped) → total loads (touch_steps (touch_of h d n) l now f) ≤ 1
      by hit.First d = omega arith
      by hit.Already d = omega (arith, second_loads (makes_second f.first) l f)
      by hit.Marked d = omega arith
      by hit.Attempts None = omega (arith, attempt_loads (touch.Queued n))
      by hit.Attempts (Some dropped.Full) = omega (arith, attempt_loads (touch.Dropped dropped.Full))
      by hit.Attempts (Some dropped.Busy) = omega (arith, attempt_loads (touch.Dropped dropped.Busy))
      by hit.Attempts (Some dropped.RefsFull) = omega (arith, attempt_loads (touch.Dropped dropped.RefsFull))

  few_exchanges : (is_attempted (touch_answer limit f n) ≡ true → length f.failed ≤ 8)
      → total exchanges (touch_steps (touch_answer limit f n) l now f) ≤ 8
  few_exchanges = by (hit_of f.first f.second) (why_dropped limit f) refl
    where
      all : Bool
      all = length f.failed == 8

      room_left : Bool
      room_left = nat_lt (last_found f.look f.failed).refs limit

      by : (h : Hit) (d : Option Dropped) → why_dropped limit f ≡ d
          → (is_attempted (touch_of h d n) ≡ true → length f.failed ≤ 8)
          → total exchanges (touch_steps (touch_of h d n) l now f) ≤ 8
      by hit.First d e few = omega arith
      by hit.Already d e few = omega (arith, second_exchanges (makes_second f.first) l f)
      by hit.Marked d e few = omega arith
      by hit.Attempts None e few = let left = below (length f.failed) (few refl) (had all room_left f.room e) in
          omega (arith, attempt_exchanges (touch.Queued n), left)
      by hit.Attempts (Some dropped.Full) e few =
          let left = below (length f.failed) (few refl) (had_full all room_left f.room e) in
          omega (arith, attempt_exchanges (touch.Dropped dropped.Full), left)
      by hit.Attempts (Some dropped.Busy) e few =
          omega (arith, attempt_exchanges (touch.Dropped dropped.Busy), few refl)
      by hit.Attempts (Some dropped.RefsFull) e few =
          omega (arith, attempt_exchanges (touch.Dropped dropped.RefsFull), few refl)

  few_others : total others (touch_steps (touch_answer limit f n) l now f) ≤ 4
  few_others = by (hit_of f.first f.second) (why_dropped limit f)
    where
      by : (h : Hit) (d : Option Dropped) → total others (touch_steps (touch_of h d n) l now f) ≤ 4
      by hit.First d = omega arith
      by hit.Already d = omega (arith, second_others (makes_second f.first) l f)
      by hit.Marked d = omega arith
      by hit.Attempts None = omega (arith, attempt_others (touch.Queued n))
      by hit.Attempts (Some dropped.Full) = omega (arith, attempt_others (touch.Dropped dropped.Full))
      by hit.Attempts (Some dropped.Busy) = omega (arith, attempt_others (touch.Dropped dropped.Busy))
      by hit.Attempts (Some dropped.RefsFull) = omega (arith, attempt_others (touch.Dropped dropped.RefsFull))

  pub touch_makes : (answered : Touch) (before after : List OwnStep) → answered ≡ touch_answer limit f n
      → (is_attempted answered ≡ true → length f.failed ≤ 8) → after ≡ before ++ touch_steps answered l now f
      → MakesAtMost 1 8 4 before after
  touch_makes answered before after is few grown =
      let few' = subst (λ (t : Touch). is_attempted t ≡ true → length f.failed ≤ 8) is few in record {
        made = touch_steps answered l now f;
        grown = grown;
        few_loads = subst (λ (t : Touch). total loads (touch_steps t l now f) ≤ 1) (sym is) few_loads;
        few_exchanges = subst (λ (t : Touch). total exchanges (touch_steps t l now f) ≤ 8) (sym is) (few_exchanges few');
        few_others = subst (λ (t : Touch). total others (touch_steps t l now f) ≤ 4) (sym is) few_others;
      }
