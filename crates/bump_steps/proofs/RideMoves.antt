-- A bump's reference leaves its worker's hand, and comes back to it: views count the same between them.
use Rattle.std.proofs.Common.{◌≡◌, ℕ, ◌+◌, ◌==◌, cond, List, [], ◌∷◌, refl, arith}
use Rattle.atomic_table.specs.Table.{Splits, Joins}
use Rattle.bump_rules.specs.declared.configs.Config.{Config}
use Rattle.bump_rules.specs.declared.bumps.AppliedBump.{AppliedBump}
use Rattle.bump_rules.specs.declared.bumps.Outcome.{Outcome}
use Rattle.bump_rules.specs.declared.bumps.Outcome.TheVariants as outcome
use Rattle.bump_rules.specs.declared.hands.Hand.{Hand}
use Rattle.bump_rules.specs.declared.hands.Hand.TheVariants as hand
use Rattle.bump_rules.specs.Totals.{total, how_many}
use Rattle.bump_rules.specs.Lives.{life, one_if, count_of}
use Rattle.bump_steps.specs.declared.views.Ride.{Ride}
use Rattle.bump_steps.specs.declared.views.WorkerSheet.{WorkerSheet}
use Rattle.bump_steps.specs.declared.views.HoldSheet.{HoldSheet}
use Rattle.bump_steps.specs.declared.views.View.{View}
use Rattle.bump_steps.specs.Views.{Measure, held, named, saw, owners, strays, mislabels, misreads, glanced, misglanced, glances_at, misglances_at, weight, in_hand, is_fetch_of, shown_by}
use Rattle.bump_steps.specs.Rule.{RowPredicate, Kept, blank}
use Rattle.bump_steps.specs.Plays.{on_first}
use Rattle.bump_steps.specs.Rides.{touching, rides_by, rides_in, sent, sent_hand, without_ride, ride_only, return_both}
use Rattle.bump_steps.proofs.Frame.{AddsUp, splits, joins}
use Rattle.bump_steps.proofs.StepLemmas.{on_first_total}

-- what leaves the hand travels
hand_sheets : (c g : ℕ) (w : WorkerSheet) (s : Hand) → in_hand c g (sent_hand s) + total (λ r. one_if (life c g) r.life)
    (rides_by w s) ≡ in_hand c g s
hand_sheets c g w hand.Idle = refl
hand_sheets c g w (hand.Trying l) = refl
hand_sheets c g w (hand.InHand l) = omega arith
hand_sheets c g w (hand.Clearing l) = refl

workers_sheet : (c g : ℕ) (ws : List WorkerSheet) → total (λ w. in_hand c g w.hand) (on_first sent ws) + total
    (λ r. one_if (life c g) r.life) (rides_in ws) ≡ total (λ w. in_hand c g w.hand) ws
workers_sheet c g [] = refl
workers_sheet c g (w ∷ ws) = omega (arith, hand_sheets c g w w.hand)

parted : (v : View) (c : ℕ) (x : Measure) → AddsUp (weight c x) v (without_ride v) (ride_only v)
parted v c (held g) = omega (arith, workers_sheet c g v.workers)
parted v c (named g) = omega (arith, on_first_total (λ w. count_of (life c g) w.hits) sent (λ w. refl) v.workers)
parted v c (saw g) = omega (
  arith,
  on_first_total (λ w. how_many (is_fetch_of c g) w.steps) sent (λ w. refl)
      v.workers,
)
parted v c owners = omega arith
parted v c (strays s) = omega arith
parted v c (mislabels i y) = omega arith
parted v c (misreads i g y) = omega arith
parted v c (glanced g) = omega (arith, on_first_total (glances_at c g) sent (λ w. refl) v.workers)
parted v c (misglanced i g y) = omega (arith, on_first_total (misglances_at i c g y) sent (λ w. refl) v.workers)

parted_evidence : (v : View) (n : ℕ) (a : AppliedBump) (o : Outcome) → AddsUp (shown_by o n a) v (without_ride v)
    (ride_only v)
parted_evidence v n a outcome.Moved = omega arith
parted_evidence v n a outcome.Gone = omega arith
parted_evidence v n a outcome.TimeOnly = omega arith

-- the rule doesn't notice that a bump is sent off
pub ride_splits : {law : RowPredicate} (key : Config) (id : ℕ) (v : View) → Splits (Kept law key) id v (without_ride v) (ride_only v)
ride_splits key id v = splits key id v (without_ride v) (ride_only v) (parted v)
    (λ n a. (omega arith, parted_evidence v n a a.outcome)) (λ q. (omega arith, omega arith, omega arith, omega arith)) (omega arith)
    (λ have. (have, tt)) (λ n. omega (
      arith,
      on_first_total (λ w. cond (w.worker == n) 1 0) sent (λ w. refl)
          v.workers,
    )) (λ n. omega arith) (omega arith)

module _ (p : WorkerSheet) (h : HoldSheet) (r : Ride) where
  abbrev pub idle : View
  idle = touching (record p { hand = hand.Idle }) h

  abbrev pub travels : View
  travels = record blank { riders = r ∷ [] }

  even : (c : ℕ) (x : Measure) → weight c x (return_both idle travels) + weight c x blank ≡ weight c x idle + weight c
      x travels
  even c (held g) = omega arith
  even c (named g) = refl
  even c (saw g) = refl
  even c owners = refl
  even c (strays s) = refl
  even c (mislabels i y) = refl
  even c (misreads i g y) = omega arith
  even c (glanced g) = omega arith
  even c (misglanced i g y) = omega arith

  same_evidence : (n : ℕ) (a : AppliedBump) (o : Outcome) → shown_by o n a (return_both idle travels) + shown_by o n a
      blank ≡ shown_by o n a idle + shown_by o n a travels
  same_evidence n a outcome.Moved = refl
  same_evidence n a outcome.Gone = refl
  same_evidence n a outcome.TimeOnly = refl

  -- nor that one comes back
  pub ride_joins : {law : RowPredicate} (key : Config) (id other : ℕ) → Joins (Kept law key) id idle other travels (return_both idle travels)
      blank
  ride_joins key id other = joins key id idle other travels (return_both idle travels) blank even
      (λ n a. (refl, same_evidence n a a.outcome)) (λ q. (refl, refl, refl, refl)) refl (λ have more. (tt, tt)) (λ n. refl)
      (λ n. refl) refl
