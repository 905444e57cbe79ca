-- No bump is settled twice: a worker has one lane, and its bumps are numbered in order.
use Rattle.std.proofs.Common.{◌≡◌, ℕ, ◌+◌, ◌<◌, ◌≤◌, ◌&&◌, ◌==◌, cond, Bool, true, false, List, [], ◌∷◌, set, Option, None, Some, refl, ap, arith, ne_eqb, eqb-true}
use mathlib.Core.Bool.{false≢true}
use mathlib.Core.Logic.{dite}
use native.Mathlib.Decide.{ℕ_discrete}
use Rattle.bump_rules.specs.Totals.{total}
use Rattle.bump_rules.specs.declared.bumps.Bump.{Bump}
use Rattle.bump_rules.specs.declared.lanes.LaneStage.{LaneStage}
use Rattle.bump_rules.specs.declared.lanes.LaneStage.TheVariants as lane
use Rattle.bump_rules.specs.declared.bumps.AppliedBump.{AppliedBump}
use Rattle.bump_steps.specs.declared.views.LaneSheet.{LaneSheet}
use Rattle.bump_steps.specs.declared.views.View.{View}
use Rattle.bump_rules.specs.Entries.{is_moved, is_told_moved, moving}
use Rattle.bump_rules.specs.Totals.{how_many}
use Rattle.bump_rules.proofs.Updates.{total_below}
use Rattle.bump_steps.specs.Views.{bump_aboard, Query, settled_in, settled, lane_count_of, in_order, untidy_in, untidy}
use Rattle.bump_steps.specs.Plays.{every}
use Rattle.bump_steps.specs.Rule.{blank}
use Rattle.bump_steps.proofs.Sums.{total-set, none_where_none}
use mathlib.Core.Option.{some}
use lib.ListN.{get_elem?}

and_both : (a b : Bool) → (a && b) ≡ true → (a ≡ true) × (b ≡ true)
and_both true true e = (refl, refl)
and_both true false e = absurd (false≢true e)
and_both false b e = absurd (false≢true e)

bit_le : (b : Bool) → cond b 1 0 ≤ 1
bit_le true = omega arith
bit_le false = omega arith

numbered : ℕ → AppliedBump → ℕ
numbered n a = cond (a.number == n) 1 0

next : ℕ → Option Bump → ℕ
next n None = 0
next n (Some b) = cond (b.number == n) 1 0

none_before : (n i : ℕ) (es : List AppliedBump) (o : Option Bump) → n < i → in_order i es o ≡ true
    → total (numbered n) es + next n o ≡ 0
unfolding numbered next
none_before n i [] None h e = refl
none_before n i [] (Some b) h e = let is = eqb-true b.number i e in
    omega (arith, ap {B = ℕ} (λ (x : Bool). cond x 1 0) (ne_eqb b.number n (λ z. omega (arith, h, is, z))))
none_before n i (x ∷ xs) o h e = let t = and_both _ _ e in let is = eqb-true x.number i t.0 in
    omega (
      arith,
      ap {B = ℕ} (λ (y : Bool). cond y 1 0) (ne_eqb x.number n (λ z. omega (arith, h, is, z))),
      none_before n (i + 1) xs o (omega arith) t.1,
    )

once_in : (n i : ℕ) (es : List AppliedBump) (o : Option Bump) → in_order i es o ≡ true
    → total (numbered n) es + next n o ≤ 1
unfolding numbered next
once_in n i [] None e = omega arith
once_in n i [] (Some b) e = omega (arith, bit_le (b.number == n))
once_in n i (x ∷ xs) o e = let t = and_both _ _ e in let is = eqb-true x.number i t.0 in
    dite (ℕ_discrete x.number n)
    (λ z. omega (arith, bit_le (x.number == n), none_before n (i + 1) xs o (omega (arith, is, z)) t.1))
    (λ ne. omega (arith, ap {B = ℕ} (λ (y : Bool). cond y 1 0) (ne_eqb x.number n ne), once_in n (i + 1) xs o t.1))

moved_le : (n : ℕ) (a : AppliedBump) → cond (is_told_moved (λ l. true) n a) 1 0 ≤ numbered n a
unfolding numbered
moved_le n a = by (is_moved a.outcome) (a.number == n)
  where
    by : (m x : Bool) → cond (m && (x && true)) 1 0 ≤ cond x 1 0
    by true true = omega arith
    by true false = omega arith
    by false x = omega arith

moving_le : (n : ℕ) (s : LaneStage) → moving (λ l. true) n s ≤ next n (bump_aboard s)
unfolding next
moving_le n lane.Empty = omega arith
moving_le n (lane.Carrying b) = omega arith
moving_le n (lane.Tried b) = omega arith
moving_le n (lane.Cleared b f) = omega arith
moving_le n (lane.Moved b) = by (b.number == n)
  where
    by : (x : Bool) → cond (x && true) 1 0 ≤ cond x 1 0
    by true = omega arith
    by false = omega arith

settled_le : (w n : ℕ) (l : LaneSheet) → untidy_in l ≡ 0 → settled_in (every w n) l ≤ cond (l.worker == w) 1 0
settled_le w n l e = by (l.worker == w)
  where
    tidy : (b : Bool) → ◌≡◌ {A = ℕ} (cond b 0 1) 0 → b ≡ true
    tidy true z = refl
    tidy false z = absurd (omega (arith, z))

    by : (mine : Bool) → cond mine (how_many (is_told_moved (λ l. true) n) l.applied + moving (λ l. true) n l.stage) 0
        ≤ cond mine 1 0
    by true = omega (
      arith,
      total_below (λ a. cond (is_told_moved (λ l. true) n a) 1 0) (numbered n) (moved_le n)
          l.applied,
      moving_le n l.stage,
      once_in n 0 l.applied (bump_aboard l.stage)
          (tidy (in_order 0 l.applied (bump_aboard l.stage)) e),
    )
    by false = omega arith

total_where : {A : Type 0} (f g h : A → ℕ) → ((x : A) → h x ≡ 0 → f x ≤ g x) → (l : List A) → total h l ≡ 0
    → total f l ≤ total g l
total_where f g h e [] z = omega arith
total_where f g h e (x ∷ xs) z = omega (arith, e x (omega (arith, z)), total_where f g h e xs (omega (arith, z)))

pub settled_once : (w n : ℕ) (views : List View) → total untidy views ≡ 0 → total (settled (every w n)) views ≤ total
    (lane_count_of w) views
settled_once w n views z = total_where (settled (every w n)) (lane_count_of w) untidy
    (λ v e. total_where (settled_in (every w n)) (λ l. cond (l.worker == w) 1 0) untidy_in (settled_le w n) v.lanes e)
    views z

-- lanes of other workers tell of none of this worker's moves
settled_none : (q : Query) (ls : List LaneSheet) → total (λ l. cond (l.worker == q.worker) 1 0) ls ≡ 0
    → total (settled_in q) ls ≡ 0
settled_none q ls none = none_where_none (λ l. cond (l.worker == q.worker) 1 0) (settled_in q)
    (λ l e. by (l.worker == q.worker) e (how_many (is_told_moved q.test q.number) l.applied + moving q.test q.number
    l.stage)) ls none
  where
    by : (mine : Bool) → ◌≡◌ {A = ℕ} (cond mine 1 0) 0 → (n : ℕ) → ◌≡◌ {A = ℕ} (cond mine n 0) 0
    by true e n = absurd (omega (arith, e))
    by false e n = refl

-- where no lane is of the worker, no move of its bumps is told
pub settled_nowhere : (q : Query) (views : List View) → total (lane_count_of q.worker) views ≡ 0
    → total (settled q) views ≡ 0
settled_nowhere q views none = none_where_none (lane_count_of q.worker) (settled q) (λ w e. settled_none q w.lanes e) views
    none

-- the view that has the worker's lane tells of all moves of its bumps
pub settled_here : (q : Query) (views : List View) (i : ℕ) (v : View) → get_elem? views i ≡ some v
    → total (lane_count_of q.worker) views ≤ 1 → 0 < lane_count_of q.worker v → total (settled q) views ≡ settled q v
settled_here q views i v me one mine = omega (
  arith,
  total-set (settled q) views i v blank me,
  none_where_none (lane_count_of q.worker) (settled q) (λ w e. settled_none q w.lanes e) (set views i blank)
      (omega (arith, total-set (lane_count_of q.worker) views i v blank me, one, mine)),
)
