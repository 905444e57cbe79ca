-- Moves for bumps: those of a worker in a class's history, and the entries of its lane.
use Rattle.std.proofs.Common.{◌≡◌, ℕ, ◌+◌, ◌<◌, ◌≤◌, ◌==◌, true, false, List, [], ◌∷◌, ◌++◌, length, slice_index, refl, ap, ◌∙◌, subst, arith, eq-eqb}
use Rattle.std.proofs.Math.Bool.{and-true}
use Rattle.std.proofs.lemmas.List.{length-append}
use Rattle.bump_rules.specs.declared.bumps.Bump.{Bump}
use Rattle.bump_rules.specs.declared.history.Cause.TheVariants as cause
use Rattle.bump_rules.specs.declared.history.Change.{Change}
use Rattle.bump_rules.specs.declared.history.Change.TheVariants as change
use Rattle.bump_rules.specs.declared.places.Segment.TheVariants.{Warm, Cold}
use Rattle.bump_rules.specs.Entries.{is_stray, moves_of}
use Rattle.bump_rules.specs.declared.bumps.Outcome.TheVariants as outcome
use Rattle.bump_rules.specs.Lanes.{is_half_made, applied_bump}
use Rattle.bump_rules.proofs.Counted.{how_many_push}
use Rattle.bump_rules.specs.Lawful.{bit}
use Rattle.bump_rules.specs.Totals.{how_many}
use Rattle.bump_rules.proofs.MovesOf.{moves_as_told, moves_of_bump, none_making, told_few}
use Rattle.bump_rules.proofs.ToldMoves.{told_same}
use Rattle.bump_steps.specs.declared.views.ClassSheet.{ClassSheet}
use Rattle.bump_steps.specs.declared.views.LaneSheet.{LaneSheet}
use Rattle.bump_steps.specs.Views.{owns}
use Rattle.bump_heads.specs.Applying.{TellsMoves, is_own}
use Rattle.bump_class.specs.Applications.{FoundHeads, moved_in, class_after_update, lane_after_update}
use Rattle.bump_class.specs.Books.{CountsEachWorker}

-- the moves for bumps of the lane's worker are the lane's entries Moved of items of the class
pub all_told : (k : ClassSheet) (l : LaneSheet) → how_many is_stray k.history ≡ 0 → is_half_made l.stage ≡ false
    → TellsMoves k l → moves_of l.worker k.history ≡ moved_in k l.applied
all_told k l fair rests told = omega (
  arith,
  moves_as_told l.worker (λ j. owns j.chunk k) k.history l.applied l.stage fair
      (λ n. told (λ j. true) n
      ∙ told_same (is_own k (λ j. true)) (λ j. owns j.chunk k) (λ j. and-true (owns j.chunk k)) n l.applied l.stage),
  none_making (λ j. owns j.chunk k) l.stage rests,
)

-- so they are no more than the bumps that the lane applied
pub few_moves : (k : ClassSheet) (l : LaneSheet) → how_many is_stray k.history ≡ 0 → is_half_made l.stage ≡ false
    → TellsMoves k l → moves_of l.worker k.history ≤ length l.applied
few_moves k l fair rests told = omega (
  arith,
  all_told k l fair rests told,
  told_few (λ j. owns j.chunk k) l.applied,
)

-- one more move is counted
pub counts_bump : (workers : ℕ) (counts more : List ℕ) (history : List Change) (worker : ℕ) (b : Bump)
    → CountsEachWorker workers counts history
    → ((w : ℕ) → w < workers → slice_index more w ≡ slice_index counts w + bit (worker == w))
    → CountsEachWorker workers more (history ++ change.Moved b.life Cold Warm (cause.Bump worker b.number) ∷ [])
counts_bump workers counts more history worker b counted one w near = omega (
  arith,
  one w near,
  counted w near,
  moves_of_bump w worker b.number history b.life Cold Warm,
)

-- before a move for a bump there were fewer than the bumps that the lane applied with it
pub few_before : (k m : ClassSheet) (l x : LaneSheet) (b : Bump) (now : ℕ) (f : FoundHeads)
    → how_many is_stray k.history ≡ 0 → m ≡ class_after_update outcome.Moved l.worker b now f k
    → x ≡ lane_after_update outcome.Moved b f l → TellsMoves m x → moves_of l.worker k.history ≤ length l.applied
few_before k m l x b now f fair class this_lane told =
    let e : Change = change.Moved b.life Cold Warm (cause.Bump l.worker b.number) in
    let after : TellsMoves (class_after_update outcome.Moved l.worker b now f k) (lane_after_update outcome.Moved b f l)
    = subst (λ (y : ClassSheet × LaneSheet). TellsMoves y.0 y.1) (λ i. (class i, this_lane i)) told in
    omega (
      arith,
      few_moves (class_after_update outcome.Moved l.worker b now f k) (lane_after_update outcome.Moved b f l)
          (how_many_push is_stray k.history e ∙ omega (arith, fair)) refl after,
      moves_of_bump l.worker l.worker b.number k.history b.life Cold Warm,
      ap bit (eq-eqb l.worker l.worker refl),
      length-append l.applied (applied_bump b outcome.Moved ∷ []),
    )
