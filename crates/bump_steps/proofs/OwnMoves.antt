-- The moves of items of a class's own chunks stand in its own history: no other view has one.
use Rattle.std.proofs.Common.{◌≡◌, ℕ, ◌+◌, ◌≤◌, ◌&&◌, ◌==◌, cond, not, Option, Some, None, Bool, true, false, List, [], ◌∷◌, set, refl, arith}
use mathlib.Core.Option.{some}
use lib.ListN.{get_elem?}
use Rattle.bump_rules.specs.declared.items.ItemId.{ItemId}
use Rattle.bump_rules.specs.declared.history.Change.{Change}
use Rattle.bump_rules.specs.declared.history.Change.TheVariants as change
use Rattle.bump_rules.specs.Entries.{is_bump, is_move_for}
use Rattle.bump_rules.specs.History.{subject}
use Rattle.bump_rules.specs.Lawful.{bit}
use Rattle.bump_rules.specs.Tables.{is_warm, is_cold}
use Rattle.bump_rules.specs.Totals.{total, how_many}
use Rattle.bump_steps.specs.declared.views.ClassSheet.{ClassSheet}
use Rattle.bump_steps.specs.declared.views.Ride.{Ride}
use Rattle.bump_steps.specs.declared.views.View.{View}
use Rattle.bump_steps.specs.Views.{owners, owns, weight, Query, moves, names_move, names_outside, in_progress, foreign_in, foreign}
use Rattle.bump_steps.specs.Plays.{IsOwn}
use Rattle.bump_steps.specs.Rule.{blank}
use Rattle.bump_steps.proofs.Sums.{total-set, none_where_none}

-- a flag isn't both
not_both : (b : Bool) → bit (not b) ≡ 0 → bit b ≡ 0 → ⊥
not_both true own none = omega (arith, none)
not_both false own none = omega (arith, own)

module _ (q : Query) where
  -- an entry of an own chunk is no move of an item of another one
  other_entry : (k : ClassSheet) → ((l : ItemId) → q.test l ≡ true → bit (owns l.chunk k) ≡ 0) → (e : Change)
      → bit (not (owns (subject e).chunk k)) ≡ 0 → bit (is_move_for q.test q.worker q.number e) ≡ 0
  other_entry k none (change.Linked l) own = refl
  other_entry k none (change.LinkedTemp l) own = refl
  other_entry k none (change.Moved l from to cause) own = by (q.test l) refl
    where
      by : (b : Bool) → q.test l ≡ b
          → bit (b && (is_cold from && (is_warm to && is_bump q.worker q.number cause))) ≡ 0
      by true passes = absurd (not_both (owns l.chunk k) own (none l passes))
      by false passes = refl
  other_entry k none (change.Unlinked l) own = refl
  other_entry k none (change.Swept l) own = refl
  other_entry k none (change.Retired l) own = refl

  -- classes that have none of the items' chunks have none of their moves
  other_classes : (ks : List ClassSheet)
      → ((l : ItemId) → q.test l ≡ true → total (λ k. bit (owns l.chunk k)) ks ≡ 0) → total foreign_in ks ≡ 0
      → total (λ k. how_many (is_move_for q.test q.worker q.number) k.history) ks ≡ 0
  other_classes [] none own = refl
  other_classes (k ∷ ks) none own = omega (
    arith,
    none_where_none (λ e. bit (not (owns (subject e).chunk k)))
        (λ e. bit (is_move_for q.test q.worker q.number e))
        (other_entry k (λ l passes. omega (arith, none l passes))) k.history (omega (arith, own)),
    other_classes ks (λ l passes. omega (arith, none l passes)) (omega (arith, own)),
  )

  -- nor have views
  other_views : (views : List View)
      → ((l : ItemId) → q.test l ≡ true → total (weight l.chunk owners) views ≡ 0) → total foreign views ≡ 0
      → total (moves q) views ≡ 0
  other_views [] none own = refl
  other_views (v ∷ vs) none own = omega (
    arith,
    other_classes v.classes (λ l passes. omega (arith, none l passes)) (omega (arith, own)),
    other_views vs (λ l passes. omega (arith, none l passes)) (omega (arith, own)),
  )

  -- the view that has the items' chunks has all their moves
  pub moves_here : (views : List View) (i : ℕ) (v : View) → get_elem? views i ≡ some v
      → ((c : ℕ) → total (weight c owners) views ≤ 1) → total foreign views ≡ 0 → IsOwn q.test v
      → total (moves q) views ≡ moves q v
  moves_here views i v me one own mine = omega (
    arith,
    total-set (moves q) views i v blank me,
    other_views (set views i blank)
        (λ l passes. omega (
          arith,
          total-set (weight l.chunk owners) views i v blank me,
          one l.chunk,
          mine l passes,
        ))
        (omega (arith, total-set foreign views i v blank me, own)),
  )
