-- A rider that boards a lane.
use Rattle.std.proofs.Common.{◌≡◌, ℕ, ◌+◌, List, [], ◌∷◌, length, refl, ap, arith, Bool, cond, ◌&&◌, ◌==◌, Some, None, eq-eqb}
use Rattle.atomic_table.specs.Table.{Joins}
use Rattle.bump_rules.specs.declared.configs.Config.{Config}
use Rattle.bump_rules.specs.declared.lanes.LaneStage.TheVariants as lane
use Rattle.bump_rules.specs.declared.bumps.Bump.{Bump}
use Rattle.bump_rules.specs.declared.bumps.AppliedBump.{AppliedBump}
use Rattle.bump_rules.specs.declared.bumps.Outcome.{Outcome}
use Rattle.bump_rules.specs.declared.bumps.Outcome.TheVariants as outcome
use Rattle.bump_steps.specs.declared.views.Ride.{Ride}
use Rattle.bump_rules.specs.declared.bumps.AppliedBump.{AppliedBump}
use Rattle.bump_steps.specs.declared.views.LaneSheet.{LaneSheet}
use Rattle.bump_steps.specs.declared.views.View.{View}
use Rattle.bump_steps.specs.Views.{Measure, held, named, owners, saw, strays, mislabels, misreads, glanced, misglanced, weight, shown_by, in_order}
use Rattle.bump_steps.specs.Rule.{RowPredicate, blank, Kept}
use Rattle.bump_steps.specs.Riders.{board_both}
use Rattle.bump_steps.proofs.Frame.{joins}

-- the bump that boards has the next number
order_boards : (b : Bump) (es : List AppliedBump) (i : ℕ) → b.number ≡ i + length es
    → in_order i es (Some b) ≡ in_order i es None
order_boards b [] i e = eq-eqb b.number i (omega (arith, e))
order_boards b (x ∷ xs) i e = ap (λ (y : Bool). (x.number == i) && y) (order_boards b xs (i + 1) (omega (arith, e)))

module _ (l : LaneSheet) (r : Ride) where
  abbrev pub waiting : View
  waiting = record blank { lanes = record l { stage = lane.Empty } ∷ [] }

  abbrev pub riding : View
  riding = record blank { riders = r ∷ [] }

  even : (c : ℕ) (x : Measure) → weight c x (board_both waiting riding) + weight c x blank ≡ weight c x waiting
      + weight c x riding
  even c (held g) = omega arith
  even c (named g) = refl
  even c (saw g) = refl
  even c owners = refl
  even c (strays s) = refl
  even c (mislabels i x) = refl
  even c (misreads i g x) = refl
  even c (glanced g) = refl
  even c (misglanced i g x) = refl

  same_evidence : (n : ℕ) (a : AppliedBump) (o : Outcome) → shown_by o n a (board_both waiting riding) + shown_by o n
      a blank ≡ shown_by o n a waiting + shown_by o n a riding
  same_evidence n a outcome.Moved = refl
  same_evidence n a outcome.Gone = refl
  same_evidence n a outcome.TimeOnly = omega arith

  pub boards : {law : RowPredicate} (key : Config) (id other : ℕ) → Joins (Kept law key) id waiting other riding (board_both waiting riding)
      blank
  boards key id other = joins key id waiting other riding (board_both waiting riding) blank even
      (λ n a. (omega arith, same_evidence n a a.outcome)) (λ q. (omega arith, omega arith, refl, omega arith)) refl
      (λ have more. (tt, tt)) (λ n. refl) (λ n. refl)
      (omega (
        arith,
        ap {B = ℕ} (λ (x : Bool). cond x 0 1)
            (order_boards (record { number = length l.applied; life = r.life }) l.applied 0 (omega arith)),
      ))
