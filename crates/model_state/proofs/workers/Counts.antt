-- The counts of the workers that are under way, where one worker changed, where none is under way, and at the start.
use Rattle.std.proofs.Common.{◌≡◌, ℕ, zero, suc, ◌+◌, ◌<◌, ◌≤◌, ◌^◌, Bool, true, false, List, [], ◌∷◌, length, get_or, set, refl, sym, ap, arith}
use Rattle.std.specs.Prelude.{replicate, not, is_some}
use Rattle.std.specs.List.{list_any}
use Rattle.std.proofs.lemmas.Bool.{or_from}
use Rattle.std.proofs.lemmas.List.{length-set}
use Rattle.bump_rules.specs.declared.hands.Hand.{Hand}
use Rattle.bump_rules.specs.declared.hands.Hand.TheVariants as hand
use Rattle.bump_rules.specs.declared.lanes.LaneStage.{LaneStage}
use Rattle.bump_rules.specs.declared.lanes.LaneStage.TheVariants as lane
use Rattle.bump_rules.specs.declared.items.ItemId.{ItemId}
use Rattle.model_state.specs.declared.workers.Worker.{Worker}
use Rattle.bump_rules.specs.Lawful.{bit}
use Rattle.model_state.specs.State.{State, new_worker, applies_in}
use Rattle.bump_rules.specs.Hands.{is_idle, is_on}
use Rattle.bump_rules.specs.Lanes.{applied_life}
use Rattle.bump_rules.specs.Totals.{total, how_many}
use Rattle.model_state.specs.Workers.{worker_views, worker_view, is_not_idle, is_applying, AreCounted}
use Rattle.bump_rules.proofs.Updates.{total_written, term_within}

-- a mark counts at most one
bit_most : (b : Bool) → bit b ≤ 1
bit_most true = omega arith
bit_most false = omega arith

-- at most all pass a test
at_most_all : {A : Type 0} (test : A → Bool) (xs : List A) → how_many test xs ≤ length xs
at_most_all test [] = omega arith
at_most_all test (x ∷ xs) = omega (arith, bit_most (test x), at_most_all test xs)

-- where an element fails a test, fewer than all pass it
all_but_one : {A : Type 0} (test : A → Bool) (xs : List A) (i : ℕ) (a : A) → i < length xs
    → how_many test xs + 1 ≤ length xs + bit (test (get_or xs i a))
all_but_one test [] i a within = absurd (omega arith)
all_but_one test (x ∷ xs) zero a within = omega (arith, at_most_all test xs)
all_but_one test (x ∷ xs) (suc i) a within = omega (arith, bit_most (test x), all_but_one test xs i a (omega arith))

-- a worker in a list whose count is n: `was` says whether it passes
module _ (test : Worker → Bool) (xs : List Worker) (i : ℕ) (a : Worker) (within : i < length xs) (is : a
    ≡ get_or xs i a) (n : ℕ) (counted : n ≡ how_many test xs) (few : length xs < 2 ^ 32) (was : Bool) (was_so : was
    ≡ test a) where
  -- what it was is counted
  pub counted_in : bit was ≤ n
  counted_in = omega (
    arith,
    counted,
    ap bit was_so,
    term_within (λ v. bit (test v)) xs i a within,
    ap (λ v. bit (test v)) is,
  )

  -- there is room to count it anew
  pub counted_few : (now : Bool) → n + bit now < 2 ^ 32 + bit was
  counted_few now = omega (
    arith,
    counted,
    few,
    ap bit was_so,
    bit_most now,
    all_but_one test xs i a within,
    ap (λ v. bit (test v)) is,
  )

  -- the new count follows from the old one
  counted_anew : (x : Worker) (m : ℕ) (now : Bool) → now ≡ test x → m + bit was ≡ n + bit now → m
      ≡ how_many test (set xs i x)
  counted_anew x m now now_so anew = omega (
    arith,
    counted,
    anew,
    ap bit was_so,
    ap bit now_so,
    total_written (λ v. bit (test v)) xs i x a within,
    ap (λ v. bit (test v)) is,
  )

-- one worker changed behind a reference
module _ (xs : List Worker) (i : ℕ) (a x : Worker) (within : i < length xs) (is : a ≡ get_or xs i a) (n m : ℕ)
    (o : AreCounted n m xs) where
  -- the length stays, and so it stays few
  still_few : length (set xs i x) < 2 ^ 32
  still_few = omega (arith, o.few, length-set xs i x)

  -- a hand that is under way as before leaves the count
  hands_still : is_not_idle x ≡ is_not_idle a → n ≡ how_many is_not_idle (set xs i x)
  hands_still same = counted_anew is_not_idle xs i a within is n o.not_idle o.few (is_not_idle x) same x n
      (is_not_idle x) refl refl

  -- and so does a lane
  applying_still : is_applying x ≡ is_applying a → m ≡ how_many is_applying (set xs i x)
  applying_still same = counted_anew is_applying xs i a within is m o.applying o.few (is_applying x) same x m
      (is_applying x) refl refl

  -- a worker that is under way as before leaves both counts
  pub both_still : is_not_idle x ≡ is_not_idle a → is_applying x ≡ is_applying a → AreCounted n m (set xs i x)
  both_still hand lane = record { not_idle = hands_still hand; applying = applying_still lane; few = still_few }

  -- one whose hand changed is counted anew
  pub hand_anew : (r : ℕ) (was now : Bool) → was ≡ is_not_idle a → now ≡ is_not_idle x → r + bit was ≡ n + bit now
      → is_applying x ≡ is_applying a → AreCounted r m (set xs i x)
  hand_anew r was now was_so now_so anew lane = record {
    not_idle = counted_anew is_not_idle xs i a within is n o.not_idle o.few was was_so x r now now_so anew;
    applying =
        applying_still lane;
    few = still_few;
  }

  -- one whose lane changed is counted anew
  pub lane_anew : (r : ℕ) (was now : Bool) → was ≡ is_applying a → now ≡ is_applying x → r + bit was ≡ m + bit now
      → is_not_idle x ≡ is_not_idle a → AreCounted n r (set xs i x)
  lane_anew r was now was_so now_so anew hand = record {
    not_idle = hands_still hand;
    applying =
        counted_anew is_applying xs i a within is m o.applying o.few was was_so x r now now_so anew;
    few = still_few;
  }

-- where no worker is under way, none is on a life
pub none_on : (l : ItemId) (xs : List Worker) → how_many is_not_idle xs ≡ 0
    → total (λ w. is_on l w.hand) (worker_views xs) ≡ 0
none_on l [] none = refl
none_on l (x ∷ xs) none = by x.hand (omega arith) (none_on l xs (omega (arith, none)))
  where
    by : (h : Hand) → bit (not (is_idle h)) ≡ 0 → total (λ w. is_on l w.hand) (worker_views xs) ≡ 0
        → is_on l h + total (λ w. is_on l w.hand) (worker_views xs) ≡ 0
    by hand.Idle idle rest = omega (arith, rest)
    by (hand.Trying m) idle rest = absurd (omega (arith, idle))
    by (hand.InHand m) idle rest = absurd (omega (arith, idle))
    by (hand.Clearing m) idle rest = absurd (omega (arith, idle))

-- where no lane applies a bump, none applies one of a class
pub none_applies : (s : State) (k : ℕ) (xs : List Worker) → how_many is_applying xs ≡ 0
    → list_any (λ w. applies_in s k w.lane) (worker_views xs) ≡ false
none_applies s k [] none = refl
none_applies s k (x ∷ xs) none = or_from (applies_in s k x.lane) (list_any (λ w. applies_in s k w.lane)
    (worker_views xs)) (by x.lane (omega (arith, none))) (none_applies s k xs (omega (arith, none)))
  where
    by : (y : LaneStage) → bit (is_some (applied_life y)) ≡ 0 → applies_in s k y ≡ false
    by lane.Empty rests = refl
    by (lane.Carrying b) rests = refl
    by (lane.Tried b) rests = absurd (omega (arith, rests))
    by (lane.Cleared b found) rests = absurd (omega (arith, rests))
    by (lane.Moved b) rests = absurd (omega (arith, rests))

-- of workers that have done nothing, none passes a test that a new one fails
none_new : (test : Worker → Bool) → ((x : Worker) → worker_view x ≡ new_worker → test x ≡ false)
    → (xs : List Worker) (n : ℕ) → worker_views xs ≡ replicate n new_worker → (how_many test xs ≡ 0) × (length xs ≡ n)
none_new test fails [] zero new = (refl, refl)
none_new test fails [] (suc n) new = absurd (let u : ⊥ = cc in u)
none_new test fails (x ∷ xs) zero new = absurd (let u : ⊥ = cc in u)
none_new test fails (x ∷ xs) (suc n) new =
    let first : worker_view x ≡ new_worker = cc in
    let rest : worker_views xs ≡ replicate n new_worker = cc in
    let others = none_new test fails xs n rest in
    (omega (arith, ap bit (fails x first), others.0), omega (arith, others.1))

-- so none of them is under way
pub new_counted : (xs : List Worker) (n : ℕ) → n < 2 ^ 32 → worker_views xs ≡ replicate n new_worker → AreCounted 0 0 xs
new_counted xs n few new =
    let hands = none_new is_not_idle (λ x e. ap (λ v. not (is_idle v.hand)) e) xs n new in
    let lanes = none_new is_applying (λ x e. ap (λ v. is_some (applied_life v.lane)) e) xs n new in
    record { not_idle = sym hands.0; applying = sym lanes.0; few = omega (arith, few, hands.1) }
