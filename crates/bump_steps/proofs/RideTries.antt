-- What a call of `ride` comes to, by the heads that its attempt found.
use Rattle.std.proofs.Common.{◌≡◌, ◌≢◌, ℕ, ◌+◌, ◌<◌, ◌≤◌, Bool, List, [], ◌∷◌, ◌++◌, Option, Some, None, refl, sym, ap, ap₂, ◌∙◌, arith, eq-eqb, ne_eqb, lt-ltb, le-ltb, append_assoc}
use Rattle.std.specs.Prelude.{if◌then◌else◌, nat_lt}
use Rattle.bump_rules.specs.declared.commands.Dropped.{Dropped}
use Rattle.bump_rules.specs.declared.commands.Dropped.TheVariants.{RefsFull, Busy}
use Rattle.bump_rules.specs.declared.hands.Hand.TheVariants as hand
use Rattle.bump_rules.specs.declared.items.Head.{Head}
use Rattle.bump_rules.specs.declared.items.ItemId.{ItemId}
use Rattle.bump_rules.specs.Tables.{refused_of}
use Rattle.bump_word.specs.Words.{Fits, Spells, word_of}
use Rattle.bump_word.proofs.Words.{one_head}
use Rattle.bump_steps.specs.declared.views.Kind.TheVariants as kind
use Rattle.bump_steps.specs.declared.views.OwnStep.{OwnStep}
use Rattle.bump_steps.specs.declared.views.View.{View}
use Rattle.bump_steps.specs.declared.views.WorkerSheet.{WorkerSheet}
use Rattle.bump_steps.specs.Marks.{on_worker}
use Rattle.bump_steps.specs.Plays.{Sat, step_of}
use Rattle.bump_rules.specs.Accounts.{counted_drop}
use Rattle.bump_steps.specs.Rides.{IsOfHeld, judged, judged_hand, worker_after_load_to_ride, worker_after_reserve, load_to_ride_tells, failed_to_ride_tells, reserve_tells, IsOn}
use Rattle.bump_steps.specs.Tries.{last_found, RideFound, load_and_failures, with_more, drop_of, reserved_or_dropped, worker_after_attempt}
use Rattle.bump_steps.proofs.Tries.{Trying, tries_start, has_head, last_is_one, refused_is, view_is, goes_on, found_so, first_again}

-- two changes of a worker's sheet, one after the other
again : (f g : WorkerSheet → WorkerSheet) (v : View) → on_worker g (on_worker f v) ≡ on_worker (λ w. g (f w)) v
again f g v = ap (λ (ws : List WorkerSheet). record v { workers = ws }) (first_again f g v.workers)

-- ---- the rule of an attempt

-- by fewer than 8 exchanges that failed, a head with room ends nothing
goes : (limit failed : ℕ) (h : Head) → failed < 8 → h.refs < limit → refused_of limit failed h ≡ None
goes limit failed h few room = ap₂ (λ (a b : Bool). if a then Some Busy else (if b then None else Some RefsFull))
    (ne_eqb failed 8 (λ e. absurd (omega (arith, e, few)))) (lt-ltb h.refs limit room)

-- and one without room is refused
no_room : (limit failed : ℕ) (h : Head) → failed < 8 → limit ≤ h.refs → refused_of limit failed h ≡ Some RefsFull
no_room limit failed h few none = ap₂ (λ (a b : Bool). if a then Some Busy else (if b then None else Some RefsFull))
    (ne_eqb failed 8 (λ e. absurd (omega (arith, e, few)))) (le-ltb h.refs limit none)

-- the eighth is the last
last_of_eight : (limit failed : ℕ) (h : Head) → failed ≡ 8 → refused_of limit failed h ≡ Some Busy
last_of_eight limit failed h all =
    ap (λ (a : Bool). if a then Some Busy else (if nat_lt h.refs limit then None else Some RefsFull))
    (eq-eqb failed 8 all)

-- ---- the attempt

-- the view after these loads, of which the last decided so
abbrev pub seen_to_ride : ItemId → Option Dropped → List OwnStep → View → View
seen_to_ride l o steps v = on_worker (λ w. judged o l (with_more steps w)) v

abbrev pub OfHeld : ℕ → ItemId → Head → Type 0
OfHeld limit l h = Fits h × IsOfHeld limit l h

-- So many exchanges of a call of `ride` failed, and the last step found the word.
abbrev pub TryingToRide : ℕ → ItemId → Sat → Sat → ℕ → ℕ → Head → List Head → Type 0
TryingToRide limit l before now word failed first more =
    Trying (OfHeld limit l) (λ h. h.refs < limit) (refused_of limit) (seen_to_ride l) l.chunk before now word failed
    first more

-- what the call comes to
pub record RidesSo (limit : ℕ) (l : ItemId) (before after : Sat) (dropped : Option Dropped) (first : Head)
    (more : List Head)
    : Type 0 where
  pub found : RideFound limit l first more
  pub view : after ≡ (on_worker (worker_after_attempt limit l first more) before.0, before.1)
  pub answer : dropped ≡ drop_of limit first more

module _ (limit : ℕ) (l : ItemId) (before : Sat) where
  abbrev open_to_ride : Head → Type 0
  open_to_ride h = h.refs < limit

  -- after the load
  pub ride_starts : (now : Sat) (word : ℕ) → load_to_ride_tells limit 0 l before word now
      → (first : Head) × (more : List Head) × TryingToRide limit l before now word 0 first more
  ride_starts now word t = tries_start (OfHeld limit l) open_to_ride (refused_of limit) (seen_to_ride l) l.chunk
      (λ h is. is.0) before
      now word t.0 t.1 (t.1.1, t.2) t.3

  module _ (now : Sat) (word failed : ℕ) (first : Head) (more : List Head)
      (y : TryingToRide limit l before now word failed first more)
    where
      -- the word is that of a head
      pub ride_head : (h : Head) × Spells word h
      ride_head = has_head (OfHeld limit l) open_to_ride (refused_of limit) (seen_to_ride l) l.chunk (λ h is. is.0)
          before now word failed
          first more y

      drop_is : (h : Head) → Spells word h → drop_of limit first more ≡ refused_of limit failed h
      drop_is h spelled = refused_is (OfHeld limit l) open_to_ride (refused_of limit) (seen_to_ride l) l.chunk
          (λ h is. is.0) before now word
          failed first more y h spelled

      -- where it goes on, the worker tries still
      tries_on : failed < 8 → (h : Head) → Spells word h → h.refs < limit
          → now ≡ (on_worker (λ w. judged None l (with_more (load_and_failures l.chunk first more) w)) before.0, before.1)
      tries_on few h spelled room = view_is (OfHeld limit l) open_to_ride (refused_of limit) (seen_to_ride l) l.chunk
          (λ h is. is.0) before
          now word failed first more y h spelled None (goes limit failed h few room)

      pub still_on : failed < 8 → (h : Head) → Spells word h → h.refs < limit → IsOn (hand.Trying l) l before.0
          → IsOn (hand.Trying l) l now.0
      still_on few h spelled room on = record {
        sheet = judged None l (with_more (load_and_failures l.chunk first more) on.sheet);
        hold = on.hold;
        view = ap (λ (m : Sat). m.0) (tries_on few h spelled room)
            ∙ ap (on_worker (λ w. judged None l (with_more (load_and_failures l.chunk first more) w))) on.view;
        hand = refl;
        life = on.life;
      }

      -- an exchange failed
      pub ride_goes_on : failed < 8 → (h : Head) → Spells word h → h.refs < limit → (next : Sat) (found : ℕ)
          → found ≢ word
          → failed_to_ride_tells limit (failed + 1) l now found next
          → (k : Head) × TryingToRide limit l before next found (failed + 1) first (more ++ k ∷ [])
      ride_goes_on few h spelled room next found miss t = let k : Head = t.0 in
          let o : Option Dropped = refused_of limit (failed + 1) k in
          let x : OwnStep = step_of kind.Failed l.chunk (word_of k) None in
          goes_on (OfHeld limit l) open_to_ride (refused_of limit) (seen_to_ride l) l.chunk (λ h is. is.0) before now
          word failed first more y
          h spelled room (goes limit failed h few room) next found miss k t.1 (t.1.1, t.2)
          (λ s view. t.3
          ∙ ap (λ (m : Sat). (on_worker (worker_after_load_to_ride kind.Failed limit (failed + 1) l k) m.0, m.1)) view
          ∙ ap (λ (v : View). (v, before.1))
          (again (λ w. judged None l (with_more s w)) (worker_after_load_to_ride kind.Failed limit (failed + 1) l k) before.0)
          ∙ (λ i. (
            on_worker (λ w. record w {
              hand = judged_hand o l;
              accounts = counted_drop o w.accounts;
              steps =
                  append_assoc w.steps s (x ∷ []) i;
            }) before.0,
            before.1,
          )))

      -- a drop is the last step's
      ride_stays : (d : Dropped) → failed ≤ 8 → drop_of limit first more ≡ Some d → RidesSo limit l before now (Some d)
          first more
      ride_stays d few is = record {
        found = found_so (OfHeld limit l) open_to_ride (refused_of limit) (seen_to_ride l) l.chunk (λ h is. is.0) before
            now word failed first more y few;
        view = y.view
            ∙ ap (λ (o : Option Dropped). (
              on_worker (λ w. judged o l (with_more (load_and_failures l.chunk first more) w))
                  before.0,
              before.1,
            )) is
            ∙ ap (λ (o : Option Dropped). (
              on_worker (λ w. reserved_or_dropped o l (last_found first more)
                  (with_more (load_and_failures l.chunk first more) w)) before.0,
              before.1,
            )) (sym is);
        answer = sym is;
      }

      -- there is no room
      pub ride_refuses : failed < 8 → (h : Head) → Spells word h → limit ≤ h.refs → RidesSo limit l before now
          (Some RefsFull) first more
      ride_refuses few h spelled none = ride_stays RefsFull (omega (arith, few))
          (drop_is h spelled ∙ no_room limit failed h few none)

      -- 8 exchanges failed
      pub ride_gives_up : failed ≡ 8 → RidesSo limit l before now (Some Busy) first more
      ride_gives_up all = ride_stays Busy (omega (arith, all)) (drop_is (last_found first more)
          (y.last, (last_is_one (OfHeld limit l) first more y.heads).0) ∙ last_of_eight limit failed
          (last_found first more) all)

      -- an exchange found the word that it expects
      pub reserves_it : failed < 8 → (h : Head) → Spells word h → h.refs < limit → (next : Sat) (found : ℕ)
          → found ≡ word
          → reserve_tells limit l now found next → RidesSo limit l before next None first more
      reserves_it few h spelled room next found hit t = let s : List OwnStep = load_and_failures l.chunk first more in
          let is : drop_of limit first more ≡ None = drop_is h spelled ∙ goes limit failed h few room in
          let k : t.0 ≡ last_found first more = one_head found t.0 (last_found first more) t.1
          (hit ∙ y.last, (last_is_one (OfHeld limit l) first more y.heads).0) in record {
            found = found_so (OfHeld limit l) open_to_ride (refused_of limit) (seen_to_ride l) l.chunk (λ h is. is.0)
                before now word failed first more y (omega (arith, few));
            view = t.3
                ∙ ap (λ (m : Sat). (on_worker (worker_after_reserve l t.0) m.0, m.1)) (tries_on few h spelled room)
                ∙ ap (λ (v : View). (v, before.1))
                (again (λ w. judged None l (with_more s w)) (worker_after_reserve l t.0) before.0)
                ∙ ap₂ (λ (h : Head) (o : Option Dropped).
                (on_worker (λ w. reserved_or_dropped o l h (with_more s w)) before.0, before.1)) k (sym is);
            answer = sym is;
          }
