-- A run of applications that goes on, and how it ends.
use Rattle.std.proofs.Common.{◌≡◌, ◌≢◌, ℕ, ◌+◌, ◌<◌, ◌≤◌, ◌∷◌, [], ◌++◌, true, List, length, Option, None, Some, IsSome, IfSome}
use Rattle.std.proofs.Common.{refl, sym, ap, ◌∙◌, subst, arith}
use Rattle.std.proofs.lemmas.List.{append_assoc}
use mathlib.Core.List.{IsPrefix}
use Rattle.bump_rules.specs.declared.bumps.Applied.{Applied}
use Rattle.bump_rules.specs.declared.bumps.AppliedBump.{AppliedBump}
use Rattle.bump_rules.specs.declared.bumps.Bump.{Bump}
use Rattle.bump_rules.specs.Lanes.{applied_bump}
use Rattle.bump_steps.specs.declared.views.ClassSheet.{ClassSheet}
use Rattle.bump_steps.specs.declared.views.Ride.{Ride}
use Rattle.bump_steps.specs.Views.{owns}
use Rattle.bump_class.specs.Applications.{AppliesBump, AppliesFront, EachMoveIsTold}
use Rattle.bump_class.specs.Books.{BookView}
use Rattle.bump_class.specs.Lanes.{LaneView, carries, entries, Boards}
use Rattle.bump_class.specs.Runs.{AppliesUpTo, FreesRun, HasNextAboard, MayHaveBoarded, freed_alone, with_freed}
use Rattle.bump_class.specs.Sweeps.{told_first}
use Rattle.bump_class.proofs.ApplicationLemmas.{IsSameClass}
use Rattle.bump_class.proofs.FreeRuns.{RunSoFar, Ran, applied_more, runs_of, one_at_most}

-- a bump that is aboard already is the next
pub is_aboard : (o : Option Bump) (this_lane : LaneView) → IsSome o → HasNextAboard o this_lane this_lane
is_aboard None this_lane some = absurd (cc some)
is_aboard (Some bump) this_lane some = refl

-- where nothing is aboard, the next bump goes there
pub goes_aboard : (o : Option Bump) (from to : LaneView) (bump : Bump) (ride : Ride) → o ≡ None
    → Boards from bump to ride → HasNextAboard o from to
goes_aboard o from to bump ride none boards =
    subst (λ x. HasNextAboard x from to) (sym none) (bump, ride, boards)

-- nothing happened behind the last application
pub stands_still : (o : Option Bump) (last to : LaneView) → o ≡ None → to ≡ last → MayHaveBoarded o last to
stands_still o last to none same = subst (λ x. MayHaveBoarded x last to) (sym none) same

-- a bump went aboard behind it
pub has_boarded : (o : Option Bump) (last to : LaneView) (bump : Bump) (ride : Ride) → o ≡ Some bump
    → Boards last bump to ride → MayHaveBoarded o last to
has_boarded o last to bump ride some boards = subst (λ x. MayHaveBoarded x last to) (sym some) (ride, boards)

-- an application adds to the lane's entries
pub front_grown : (now : ℕ) (book : BookView) (from : LaneView) (answer : Applied) (left : BookView) (to : LaneView)
    → AppliesFront now book from answer left to → IsPrefix (entries from) (entries to)
front_grown now book from answer left to front =
    (applied_bump front.0 front.1 ∷ [], sym (ap entries front.4.lane_after))

-- what grew and grows again has grown
pub grown_on : (xs ys zs : List AppliedBump) → IsPrefix xs ys → IsPrefix ys zs → IsPrefix xs zs
grown_on xs ys zs first then_more = (
  first.0 ++ then_more.0,
  sym (append_assoc xs first.0 then_more.0)
      ∙ ap (λ (x : List AppliedBump). x ++ then_more.0) first.1 ∙ then_more.1,
)

-- what is told of moves stays true when the next bump goes aboard
pub told_aboard : (class : ClassSheet) (from to : LaneView) (bump : Bump) (ride : Ride) → Boards from bump to ride
    → EachMoveIsTold class from.sheet → EachMoveIsTold class to.sheet
told_aboard class from to bump ride boards told =
    subst (λ (x : LaneView). EachMoveIsTold class x.sheet) (sym boards.lane) told

-- What stays of a lane behind its last application, whether the next bump went aboard or not.
pub record StaysBehind (last to : LaneView) : Type 0 where
  pub ring : to.ring ≡ last.ring
  pub kept : entries to ≡ entries last
  pub told : (class : ClassSheet) → EachMoveIsTold class last.sheet → EachMoveIsTold class to.sheet

stays_behind : (o : Option Bump) (last to : LaneView) → MayHaveBoarded o last to → StaysBehind last to
stays_behind None last to same = record {
  ring = ap (λ (x : LaneView). x.ring) same;
  kept = ap entries same;
  told = λ class told. subst (λ (x : LaneView). EachMoveIsTold class x.sheet) (sym same) told;
}
stays_behind (Some bump) last to boarded = record {
  ring = ap (λ (x : LaneView). x.ring) boarded.1.lane;
  kept = ap entries boarded.1.lane;
  told = λ class told. told_aboard class last to bump boarded.0 boarded.1 told;
}

-- A run whose next bump, which is of the class, is aboard, by what it came to so far.
pub record GoesOn (limit now : ℕ) (book : BookView) (from : LaneView) (slice : List ℕ) (done n : ℕ) (written : List ℕ)
    (between : BookView) (at : LaneView) (bump : Bump) : Type 0 where
  pub runs : RunSoFar now book from slice done n written between at
  pub few : n ≤ done
  pub aboard : carries at ≡ Some bump
  pub own : owns bump.life.chunk between.sheet ≡ true
  pub below : done < limit
  pub ring : at.ring ≡ from.ring
  pub count : length (entries at) ≡ length (entries from) + done
  pub grown : IsPrefix (entries from) (entries at)
  pub class : IsSameClass between.sheet book.sheet

-- What such a run came to when that bump was applied, and its chunk was told where it came free.
module _ {limit now : ℕ} {book : BookView} {from : LaneView} {slice : List ℕ} {done n m : ℕ}
    {written now_written : List ℕ} {between left : BookView} {at last : LaneView} {bump : Bump} {answer : Applied}
    (so_far : GoesOn limit now book from slice done n written between at bump)
    (one : AppliesBump now between at answer left last)
    (writes : n < length written → now_written ≡ with_freed n (freed_alone bump.life.chunk answer) written)
    (many : m ≡ n + length (freed_alone bump.life.chunk answer)) where
  ran : Ran now book from slice (done + 1) m now_written left last
  ran = applied_more now book from slice written now_written done (done + 1) n m between at bump answer left last refl
      so_far.runs so_far.aboard (record {
        own = subst (λ (o : Option Bump). IfSome o (λ b. owns b.life.chunk between.sheet ≡ true)) (sym so_far.aboard)
            so_far.own;
        front = one.front;
        once = one.once;
        told = one.told;
      }) writes many

  grown_by_one : IsPrefix (entries from) (entries last)
  grown_by_one = grown_on (entries from) (entries at) (entries last) so_far.grown
      (front_grown now between at answer left last one.front)

  class_is : IsSameClass left.sheet book.sheet
  class_is = (
    one.class.0 ∙ so_far.class.0,
    one.class.1 ∙ so_far.class.1,
    one.class.2 ∙ so_far.class.2,
  )

  -- it ends there, where the next bump may have gone aboard
  pub ends : (to : LaneView) → MayHaveBoarded (carries to) last to → (done + 1 ≡ limit → carries to ≡ None)
      → AppliesUpTo limit now book from (done + 1) left to
  ends to behind empty =
      let stays = stays_behind (carries to) last to behind in record {
        run = (last, runs_of now (length slice) book from (done + 1) ran.0 left last ran.1, behind);
        some = omega arith;
        most = omega (arith, so_far.below);
        empty = empty;
        ring = stays.ring ∙ one.ring ∙ so_far.ring;
        count = omega (arith, ap length stays.kept, one.count, so_far.count);
        grown = subst (λ xs. IsPrefix (entries from) xs) (sym stays.kept) grown_by_one;
        class = class_is;
        once = one.once;
        told = stays.told left.sheet one.told;
      }

  -- and these chunks came free
  pub frees : (to : LaneView) → MayHaveBoarded (carries to) last to → (end : LaneView) × (chunks : List ℕ)
      × FreesRun now (length slice) book from (done + 1) chunks left end × MayHaveBoarded (carries to) end to
      × (0 < length slice → (now_written ≡ told_first chunks slice) × (m ≡ length chunks) × (m ≤ length slice))
  frees to behind = (last, ran.0, ran.1, behind, ran.2)

  -- or it goes on, where there is room to tell one more
  pub goes_on : (to : LaneView) (next : Bump) (ride : Ride) → Boards last next to ride → carries to ≡ Some next
      → owns next.life.chunk left.sheet ≡ true → done + 1 ≢ limit → length now_written ≡ length written
      → (0 < length now_written → m ≢ length now_written)
      → GoesOn limit now book from slice (done + 1) m now_written left to next
  goes_on to next ride boards carried own below same room =
      let long : length now_written ≡ length slice = omega (arith, so_far.runs.6, same) in record {
        runs = (
          last,
          ran.0,
          ran.1,
          goes_aboard (carries last) last to next ride one.empty boards,
          ran.2,
          λ some. omega (arith, (ran.2 some).2, long, room (omega (arith, some, long))),
          long,
        );
        few = omega (arith, so_far.few, many, one_at_most bump.life.chunk answer);
        aboard = carried;
        own = own;
        below = omega (arith, so_far.below, below);
        ring = ap (λ (x : LaneView). x.ring) boards.lane ∙ one.ring ∙ so_far.ring;
        count = omega (arith, ap (λ (x : LaneView). length (entries x)) boards.lane, one.count, so_far.count);
        grown = subst (λ (x : LaneView). IsPrefix (entries from) (entries x)) (sym boards.lane) grown_by_one;
        class = class_is;
      }
