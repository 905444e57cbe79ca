-- Lanes that meet a class, one after the other.
use Rattle.std.proofs.Common.{◌≡◌, ℕ, zero, suc, ◌+◌, ◌<◌, ◌≤◌, ◌&&◌, Bool, true, false, List, length, Some, refl, sym, ap, ◌∙◌, subst, arith}
use Rattle.std.proofs.lemmas.Bool.{ltb-true, ltb-false}
use Rattle.std.proofs.lemmas.Option.{slice_get-get_or, slice_get_within, get_or_from_slice_get}
use Rattle.std.specs.Prelude.{All, slice_get, slice_index_or, nat_lt}
use mathlib.Core.Logic.{dite}
use native.Mathlib.Decide.{ℕ_discrete}
use Rattle.bump_rules.specs.declared.history.Change.{Change}
use Rattle.bump_rules.specs.declared.history.Change.TheVariants as change
use Rattle.bump_rules.specs.declared.items.ItemId.{ItemId}
use Rattle.bump_rules.specs.Entries.{is_bump, is_move_for, moves_of}
use Rattle.bump_rules.specs.declared.bumps.Outcome.TheVariants.{Moved}
use Rattle.bump_rules.specs.Lanes.{applied_bump, bump_of}
use Rattle.bump_rules.specs.Lawful.{bit}
use Rattle.bump_rules.specs.Lives.{is_same}
use Rattle.bump_rules.specs.Tables.{is_cold, is_warm}
use Rattle.bump_rules.specs.Totals.{how_many}
use Rattle.bump_rules.proofs.Updates.{total_below}
use Rattle.bump_steps.specs.declared.views.ClassSheet.{ClassSheet}
use Rattle.bump_steps.specs.declared.views.LaneSheet.{LaneSheet}
use Rattle.bump_steps.specs.Meetings.{class_after_meet}
use Rattle.bump_heads.specs.Applying.{NamesNoBumpTwice, NamesWorkersBelow}
use Rattle.bump_class.specs.Applications.{EachMoveIsTold, moved_in}
use Rattle.bump_class.specs.Books.{BookView}
use Rattle.bump_class.specs.Changes.{book_after_meets}
use Rattle.bump_store.specs.Lanes.{LaneState}
use Rattle.bump_store.specs.Meetings.{HasLaneOf, AreAllLanes, IsTold, EachIsTold}

-- the Book that met so often has noted steps, and is as it was
meets_sheet : (n : ℕ) (b : BookView)
    → (book_after_meets n b).sheet ≡ record b.sheet { steps = (book_after_meets n b).sheet.steps }
meets_sheet zero b = refl
meets_sheet (suc n) b = ap class_after_meet (meets_sheet n b)

module _ (n : ℕ) (b : BookView) where
  -- so what was known of it then is so of it before
  pub told_before : (l : LaneSheet) → EachMoveIsTold (book_after_meets n b).sheet l → EachMoveIsTold b.sheet l
  told_before l told = subst (λ (k : ClassSheet). EachMoveIsTold k l) (meets_sheet n b) told

  pub moves_before : (l : LaneSheet)
      → moves_of l.worker (book_after_meets n b).sheet.history ≡ moved_in (book_after_meets n b).sheet l.applied
      → moves_of l.worker b.sheet.history ≡ moved_in b.sheet l.applied
  moves_before l told =
      subst (λ (k : ClassSheet). moves_of l.worker k.history ≡ moved_in k l.applied) (meets_sheet n b) told

  pub once_before : NamesNoBumpTwice (book_after_meets n b).sheet → NamesNoBumpTwice b.sheet
  once_before once = subst NamesNoBumpTwice (meets_sheet n b) once

  pub workers_before : (workers : ℕ) → NamesWorkersBelow workers (book_after_meets n b).sheet
      → NamesWorkersBelow workers b.sheet
  workers_before workers below = subst (NamesWorkersBelow workers) (meets_sheet n b) below

-- what holds of the first so many lanes
abbrev pub SoFar : (LaneState → Type 0) → ℕ → List LaneState → Type 0
SoFar P n lanes = (k : ℕ) (x : LaneState) → k < n → slice_get lanes k ≡ Some x → P x

-- holds of one more
pub one_more : (P : LaneState → Type 0) (n : ℕ) (lanes : List LaneState) (y : LaneState) → slice_get lanes n ≡ Some y
    → P y → SoFar P n lanes → SoFar P (n + 1) lanes
one_more P n lanes y there one so_far k x low is = dite (ℕ_discrete k n)
    (λ e. let both : Some y ≡ Some x = sym there ∙ ap (slice_get lanes) (sym e) ∙ is in
    let same : y ≡ x = cc both in subst P same one)
    (λ ne. so_far k x (omega (arith, low, ne)) is)

-- and of all, where there are so many
pub all_so_far : (P : LaneState → Type 0) (n : ℕ) (lanes : List LaneState) → n ≡ length lanes → SoFar P n lanes
    → All P lanes
all_so_far P n lanes long so_far k d low =
    so_far k (slice_index_or lanes k d) (omega (arith, long, low)) (slice_get-get_or lanes k d low)

-- a move for a bump of an item is a move for that bump
and_le : (a b : Bool) → bit (a && b) ≤ bit (true && b)
and_le true b = omega arith
and_le false true = omega arith
and_le false false = omega arith

any_item : (item : ItemId) (w n : ℕ) (e : Change) → bit (is_move_for (is_same item) w n e)
    ≤ bit (is_move_for (λ l. true) w n e)
any_item item w n (change.Linked life) = omega arith
any_item item w n (change.LinkedTemp life) = omega arith
any_item item w n (change.Moved life from to cause) =
    and_le (is_same item life) (is_cold from && (is_warm to && is_bump w n cause))
any_item item w n (change.Unlinked life) = omega arith
any_item item w n (change.Swept life) = omega arith
any_item item w n (change.Retired life) = omega arith

-- where the lanes are those of all workers, each move is told by one of them
pub each_by_its_lane : (workers : ℕ) (k : ClassSheet) (lanes : List LaneState) → AreAllLanes workers lanes
    → NamesWorkersBelow workers k → All (λ x. EachMoveIsTold k x.lane.sheet) lanes → EachIsTold k lanes
each_by_its_lane workers k lanes all below told w n item some = by (nat_lt w workers) refl
  where
    found : w < workers → IsTold w n item lanes
    found low = let here : (x : LaneState) × HasLaneOf w lanes x = all w low in record {
      this_lane = here.0;
      has = here.1;
      entry =
          of_lane here.0 here.1
          (subst (λ (v : ℕ). 0 < how_many (is_move_for (is_same item) v n) k.history) (sym here.1.worker_is) some);
    }
      where
        of_lane : (x : LaneState) → HasLaneOf w lanes x
            → 0 < how_many (is_move_for (is_same item) x.lane.sheet.worker n) k.history
            → slice_get x.lane.sheet.applied n ≡ Some (applied_bump (bump_of n item) Moved)
        of_lane x has some_of = subst (λ (y : LaneState). EachMoveIsTold k y.lane.sheet)
            (get_or_from_slice_get lanes w x x has.there)
            (told w x (slice_get_within lanes w x has.there)) item n some_of

    by : (b : Bool) → nat_lt w workers ≡ b → IsTold w n item lanes
    by true low = found (ltb-true w workers low)
    by false high = absurd (omega (
      arith,
      some,
      total_below (λ e. bit (is_move_for (is_same item) w n e)) (λ e. bit (is_move_for (λ l. true) w n e))
          (any_item item w n) k.history,
      below w n (ltb-false w workers high),
    ))
