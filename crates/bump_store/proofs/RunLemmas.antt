-- Runs of applications, as applications of next bumps one after the other.
use Rattle.std.proofs.Common.{◌≡◌, ℕ, zero, suc, ◌+◌, ◌≤◌, Option, None, Some, IsSome, IfSome, true, refl, sym, ap, ◌∙◌, subst, arith}
use Rattle.bump_rules.specs.declared.bumps.Applied.{Applied}
use Rattle.bump_rules.specs.declared.bumps.Bump.{Bump}
use Rattle.bump_steps.specs.declared.views.Ride.{Ride}
use Rattle.bump_steps.specs.Views.{owns}
use Rattle.bump_class.specs.Books.{BookView}
use Rattle.bump_class.specs.Lanes.{LaneView, carries, Boards}
use Rattle.bump_class.specs.Runs.{AppliesOwn, AppliesRun, HasNextAboard, MayHaveBoarded}
use Rattle.bump_class.proofs.RunLemmas.{stands_still, has_boarded}
use Rattle.bump_store.specs.Lanes.{AppliesMany, AppliesNext}

-- the bump that a lane carries went aboard behind its last application, or goes there now
pub next_aboard : (o : Option Bump) (last from aboard : LaneView) (bump : Bump) → carries aboard ≡ Some bump
    → MayHaveBoarded o last from → HasNextAboard o from aboard → (ride : Ride) × Boards last bump aboard ride
next_aboard None last from aboard bump is boarded next =
    let same : next.0 ≡ bump = cc (sym (ap carries next.2.lane) ∙ is) in (
      next.1,
      subst (λ (x : Bump). Boards last x aboard next.1) same
          (subst (λ (x : LaneView). Boards x next.0 aboard next.1) boarded next.2),
    )
next_aboard (Some other) last from aboard bump is boarded next =
    let same : other ≡ bump = cc (sym (ap carries boarded.1.lane) ∙ sym (ap carries next) ∙ is) in (
      boarded.0,
      subst (λ (x : Bump). Boards last x aboard boarded.0) same
          (subst (λ (x : LaneView). Boards last other x boarded.0) (sym next) boarded.1),
    )

-- so its application is that of the lane's next bump
pub own_is_next : (now : ℕ) (book left : BookView) (last aboard to : LaneView) (answer : Applied) (bump : Bump)
    (ride : Ride) → carries aboard ≡ Some bump → Boards last bump aboard ride
    → AppliesOwn now book aboard answer left to
    → AppliesNext now last (record { number = bump.number; life = bump.life; applied = answer }) to
own_is_next now book left last aboard to answer bump ride is boards own = (
  ride,
  aboard,
  book,
  left,
  record {
    boards = boards;
    own = subst (λ (x : Option Bump). IfSome x (λ b. owns b.life.chunk book.sheet ≡ true)) is own.own;
    applied = record { aboard = is; front = own.front; once = own.once; tells = own.told };
  },
)

-- behind so many applications a run is so many more
run_is_many : (now : ℕ) (before : LaneView) (done : ℕ) (behind : LaneView) (book : BookView) (from : LaneView)
    → AppliesMany now before done behind → MayHaveBoarded (carries from) behind from
    → (count : ℕ) (left : BookView) (to : LaneView) → AppliesRun now book from count left to
    → (last : LaneView) × AppliesMany now before (done + count) last × MayHaveBoarded (carries to) last to
run_is_many now before done behind book from many boarded zero left to runs =
    let as_many : done ≡ done + 0 = omega arith in (
      behind,
      subst (λ n. AppliesMany now before n behind) as_many many,
      subst (λ (x : LaneView). MayHaveBoarded (carries x) behind x) (sym runs.1) boarded,
    )
run_is_many now before done behind book from many boarded (suc count) left to runs =
    let first = run_is_many now before done behind book from many boarded count runs.0 runs.1 runs.4 in
    let own = runs.6 in
    let bump = own.front.0 in
    let boards = next_aboard (carries runs.1) first.0 runs.1 runs.2 bump own.front.3 first.2 runs.5 in
    let next = own_is_next now runs.0 left first.0 runs.2 to runs.3 bump boards.0 own.front.3 boards.1 own in
    let one_more : suc (done + count) ≡ done + suc count = omega arith in (
      to,
      subst (λ n. AppliesMany now before n to) one_more
          (first.0, record { number = bump.number; life = bump.life; applied = runs.3 }, first.1, next),
      stands_still (carries to) to to (ap carries own.front.4.lane_after) refl,
    )

-- the bump that is fetched was aboard, or goes there
pub boarded_by_fetch : (o : Option Bump) (last from to : LaneView) (bump : Bump) → carries from ≡ o
    → MayHaveBoarded o last from → (IsSome o → to ≡ from) → (o ≡ None → (ride : Ride) × Boards from bump to ride)
    → carries to ≡ Some bump → MayHaveBoarded (carries to) last to
boarded_by_fetch None last from to bump is boarded kept next aboard =
    let boards = next refl in
    has_boarded (carries to) last to bump boards.0 aboard
    (subst (λ (x : LaneView). Boards x bump to boards.0) boarded boards.1)
boarded_by_fetch (Some other) last from to bump is boarded kept next aboard =
    subst (λ (x : LaneView). MayHaveBoarded (carries x) last x) (sym (kept refl))
    (subst (λ (x : Option Bump). MayHaveBoarded x last from) (sym is) boarded)

-- where nothing is aboard, nothing happened behind the last application
pub stood_still : (o : Option Bump) (last to : LaneView) → o ≡ None → MayHaveBoarded o last to → to ≡ last
stood_still None last to none same = same
stood_still (Some bump) last to none boarded = absurd (cc none)

-- nothing is aboard behind the last application of a run
run_empties : (now : ℕ) (book : BookView) (from : LaneView) (count : ℕ) (left : BookView) (to : LaneView)
    → 1 ≤ count → AppliesRun now book from count left to → carries to ≡ None
run_empties now book from zero left to some runs = absurd (omega (arith, some))
run_empties now book from (suc count) left to some runs = ap carries runs.6.front.4.lane_after

-- so behind it that many bumps were applied
pub run_behind : (now : ℕ) (before : LaneView) (done : ℕ) (behind : LaneView) (book : BookView) (from : LaneView)
    → AppliesMany now before done behind → MayHaveBoarded (carries from) behind from
    → (count : ℕ) (left : BookView) (to : LaneView) → 1 ≤ count → AppliesRun now book from count left to
    → AppliesMany now before (done + count) to
run_behind now before done behind book from many boarded count left to some runs =
    let all = run_is_many now before done behind book from many boarded count left to runs in
    let none = run_empties now book from count left to some runs in
    subst (λ (x : LaneView). AppliesMany now before (done + count) x)
    (sym (stood_still (carries to) all.0 to none all.2)) all.1
